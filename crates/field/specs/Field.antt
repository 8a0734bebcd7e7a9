-- Fields by their places, and what stands at a place. proofs/Laws has that the two together are format's fields by value.
use Rattle.std.specs.Prelude.{ℕ, ◌+◌, List, leb, length, get_or}
use Rattle.lists.specs.Lists.{pick}
use Rattle.item.specs.declared.Item.{Item}
use Rattle.item.specs.declared.Kind.{Kind}
use Rattle.item.specs.Item.{fits_of}
use Rattle.items.specs.declared.Items.{Items}
use Rattle.items.specs.Items.{packed}
use Rattle.config.specs.declared.Config.{Config}
use Rattle.config.specs.Config.{is_trait, packed_traits}
use Rattle.format.specs.Parse.{Parse, bad, bind, byte_at, classed}
use Rattle.cursor.specs.declared.Listing.{Listing}
use Rattle.cursor.specs.Cursor.{raw_of}
use Rattle.cursor.specs.Spans.{span_at, many_of}
use Rattle.field.specs.declared.Entry.{Entry}
use Rattle.field.specs.declared.Entry.TheVariants as E

-- the place of an item of a kind: 33 bytes, the first of its class
unfoldable pub place_at : Kind → List ℕ → ℕ → Parse ℕ
place_at k s at = pick (leb (at + 33) (length s)) (classed (fits_of k (get_or s at 0)) at (at + 33)) (bad 3)

unfoldable pub trait_place_at : List ℕ → ℕ → Parse ℕ
trait_place_at s at = bind (byte_at s at) (λ t n. classed (is_trait t) at n)

abbrev pub entry_at : Entry → List ℕ → ℕ → Parse ℕ
entry_at (E.Item k) s at = place_at k s at
entry_at E.Trait s at = trait_place_at s at

-- lists: the count and the first one's place
abbrev pub items_place_at : Kind → List ℕ → ℕ → Parse Listing
items_place_at k s at = span_at (place_at k s) 16 s at

abbrev pub config_place_at : List ℕ → ℕ → Parse Listing
config_place_at s at = span_at (trait_place_at s) 8 s at

-- what stands at a place, zeros where the bytes run out
abbrev pub byte_of : List ℕ → ℕ → ℕ
byte_of s at = get_or s at 0

unfoldable pub item_of : List ℕ → ℕ → Item
item_of s at = record { code = get_or s at 0; raw = raw_of 32 s (at + 1) }

-- a list at a place, none where there is no room
unfoldable pub items_of : List ℕ → ℕ → ℕ → Items
items_of s n p = packed (many_of (item_of s) 33 16 s n p)

unfoldable pub config_of : List ℕ → ℕ → ℕ → Config
config_of s n p = packed_traits (many_of (byte_of s) 1 8 s n p)
