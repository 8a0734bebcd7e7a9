use mathlib.Core.Path.{◌≡◌}
use lib.ListN.{drop}
use Rattle.lists.specs.Lists.{first_from}
use Rattle.item.specs.Item.{same_item}
use Rattle.items.proofs.find.Given as goal

abbrev pub invariant-loop-i : goal.invariant-loop-i
invariant-loop-i l = first_from (same_item l.x) 0 l.these ≡ first_from (same_item l.x) l.i (drop l.i l.these)
