use mathlib.Core.Path.{◌≡◌}
use lib.ListN.{take}
use Rattle.places.specs.Places.{set_of, among}
use Rattle.places.proofs.set_of.Given as goal

abbrev pub invariant-loop-place : goal.invariant-loop-place
invariant-loop-place l = l.set ≡ set_of 16 (among (take l.place-index l.ps))
