use mathlib.Core.Path.{◌≡◌}
use lib.ListN.{drop}
use Rattle.lists.specs.Lists.{any, first_from}
use Rattle.item.specs.Item.{same_item}
use Rattle.items.specs.Items.{member}
use Rattle.member_set.proofs.first_overlap.Given as goal

abbrev pub invariant-loop-y : goal.invariant-loop-y
invariant-loop-y l = any (same_item l.x) l.those ≡ any (same_item l.x) (drop l.y-index l.those)

abbrev pub invariant-loop-i : goal.invariant-loop-i
invariant-loop-i l = first_from (member l.those) 0 l.these ≡ first_from (member l.those) l.i (drop l.i l.these)
