use mathlib.Core.Path.{◌≡◌}
use lib.ListN.{take}
use Rattle.items.specs.Items.{listed}
use Rattle.member_set.specs.Members.{joined}
use Rattle.member_set.specs.Parts.{grown}
use Rattle.member_set.proofs.with_additions.Given as goal

abbrev pub invariant-loop-i : goal.invariant-loop-i
invariant-loop-i l = l.l ≡ grown (joined (listed l.first) (take l.i l.these))
