-- "An item is a code byte and 32 bytes; equality is over all 33. B and D are basic keys, E to I are digests. B is
-- non-transferable; D and every digest prefix are transferable. A prefix is B, D or E to I; keys, witnesses, removals and
-- additions are B or D; said, prior and next are E to I."
use Rattle.std.specs.Prelude.{ℕ, Bool, true, false, eqb, leb, replicate}
use Rattle.lists.specs.Lists.{pick, both, same_numbers}
use Rattle.item.specs.declared.Item.{Item}
use Rattle.item.specs.declared.Class.{Class}
use Rattle.item.specs.declared.Class.TheVariants.{NonTransferableKey, TransferableKey, Digest, Bad}
use Rattle.item.specs.declared.Kind.{Kind}
use Rattle.item.specs.declared.Kind.TheVariants.{Prefix, Key, Said}

-- by the code byte: 66 is B, 68 is D, 69 to 73 are E to I
unfoldable pub class_of : ℕ → Class
class_of c = pick (eqb c 66) NonTransferableKey (pick (eqb c 68) TransferableKey (pick (both (leb 69 c) (leb c 73)) Digest Bad))

abbrev pub basic_class : Class → Bool
basic_class NonTransferableKey = true
basic_class TransferableKey = true
basic_class Digest = false
basic_class Bad = false

abbrev pub transferable_class : Class → Bool
transferable_class NonTransferableKey = false
transferable_class TransferableKey = true
transferable_class Digest = true
transferable_class Bad = false

abbrev pub fits_class : Kind → Class → Bool
fits_class Prefix NonTransferableKey = true
fits_class Prefix TransferableKey = true
fits_class Prefix Digest = true
fits_class Prefix Bad = false
fits_class Key c = basic_class c
fits_class Said NonTransferableKey = false
fits_class Said TransferableKey = false
fits_class Said Digest = true
fits_class Said Bad = false

abbrev pub basic_of : ℕ → Bool
basic_of c = basic_class (class_of c)

abbrev pub transferable_of : ℕ → Bool
transferable_of c = transferable_class (class_of c)

abbrev pub fits_of : Kind → ℕ → Bool
fits_of k c = fits_class k (class_of c)

unfoldable pub same_item : Item → Item → Bool
same_item a b = both (eqb a.code b.code) (same_numbers a.raw b.raw)

abbrev pub zero_item : Item
zero_item = record { code = 0; raw = replicate 32 0 }

abbrev pub is_zero : Item → Bool
is_zero x = same_item zero_item x

-- an item at a place that asks for a kind
abbrev pub item_fits : Kind → Item → Bool
item_fits k x = fits_of k x.code

abbrev pub is_transferable : Item → Bool
is_transferable x = transferable_of x.code

abbrev pub item_shape : Kind → Item → ℕ
item_shape k x = pick (item_fits k x) 0 3
