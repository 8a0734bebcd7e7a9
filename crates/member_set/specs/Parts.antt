-- What the private functions promise: the list on its way through an update.
use Rattle.std.specs.Prelude.{◌+◌, List, ltb, length, take, set}
use Rattle.lists.specs.Lists.{pick, padded}
use Rattle.item.specs.declared.Item.{Item}
use Rattle.item.specs.Item.{zero_item}
use Rattle.items.specs.declared.Items.{Items}

-- a list that may have grown past 16: the count is its own, the places hold its first 16
unfoldable pub grown : List Item → Items
grown xs = record { count = length xs; at = padded 16 zero_item (take 16 xs) }

-- one more
unfoldable pub pushed : Items → Item → Items
pushed l x = record { count = l.count + 1; at = pick (ltb l.count 16) (set l.at l.count x) l.at }
