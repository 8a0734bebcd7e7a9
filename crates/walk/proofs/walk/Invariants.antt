use mathlib.Core.Path.{◌≡◌}
use Prim.Native.Nat.{◌-◌}
use lib.ListN.{length}
use Rattle.walk.specs.Walk.{lent}
use Rattle.walk.proofs.Laws.{Walking}
use Rattle.walk.proofs.walk.Given as goal

abbrev pub invariant-loop-at : goal.invariant-loop-at
invariant-loop-at l = Walking (lent l.initial.state l.initial.used) l.s (lent l.state l.used) l.w l.at × (length l.state ≡ length l.initial.state)

abbrev pub decreases-loop-at : goal.decreases-loop-at
decreases-loop-at l = length l.s - l.at
