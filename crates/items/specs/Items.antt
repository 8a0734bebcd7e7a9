-- Lists of items as structs. "Arrays with a count, unused places zero." "4 for a count above its limit"; "a byte outside
-- its class" is 3; "an unused place that isn't zero is 3, looked at after its field's used ones."
use Rattle.std.specs.Prelude.{ℕ, List, Bool, leb, length, take, drop}
use Rattle.lists.specs.Lists.{pick, all, any, padded}
use Rattle.item.specs.declared.Item.{Item}
use Rattle.item.specs.declared.Kind.{Kind}
use Rattle.item.specs.Item.{same_item, zero_item, is_zero, item_fits}
use Rattle.items.specs.declared.Items.{Items}

-- the list that a struct stands for, and the struct of a list
abbrev pub listed : Items → List Item
listed l = take l.count l.at

abbrev pub packed : List Item → Items
packed xs = record { count = length xs; at = padded 16 zero_item xs }

-- x is among them
abbrev pub member : List Item → Item → Bool
member xs x = any (same_item x) xs

unfoldable pub shape_of : Kind → Items → ℕ
shape_of k l = pick (leb l.count 16) (pick (all (item_fits k) (listed l)) (pick (all is_zero (drop l.count l.at)) 0 3) 3) 4
