use mathlib.Core.List.{[]}
use mathlib.Core.Path.{◌≡◌}
use lib.ListN.{drop, take}
use Rattle.member_set.specs.Members.{repeat_from}
use Rattle.member_set.proofs.first_repeat.Given as goal

abbrev pub invariant-loop-i : goal.invariant-loop-i
invariant-loop-i l = repeat_from [] 0 l.these ≡ repeat_from (take l.i l.these) l.i (drop l.i l.these)
