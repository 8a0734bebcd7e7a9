use mathlib.Core.Path.{◌≡◌}
use lib.ListN.{take}
use Rattle.lists.specs.Lists.{filter}
use Rattle.items.specs.Items.{listed}
use Rattle.member_set.specs.Members.{absent}
use Rattle.member_set.specs.Parts.{grown}
use Rattle.member_set.proofs.kept.Given as goal

abbrev pub invariant-loop-x : goal.invariant-loop-x
invariant-loop-x l = l.l ≡ grown (filter (absent (listed l.cuts)) (take l.x-index l.x-items))
