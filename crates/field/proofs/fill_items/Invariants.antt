use Rattle.std.proofs.Common.{◌≡◌}
use Rattle.lists.specs.Lists.{padded}
use Rattle.item.specs.Item.{zero_item}
use Rattle.cursor.specs.Spans.{list_of}
use Rattle.field.specs.Field.{item_of}
use Rattle.field.proofs.fill_items.Given as goal

abbrev pub invariant-loop-i : goal.invariant-loop-i
invariant-loop-i l = l.places ≡ padded 16 zero_item (list_of (item_of l.s) 33 l.i l.l.first)
