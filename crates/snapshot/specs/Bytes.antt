-- The bytes of a KS record's fields.
use Rattle.std.specs.Prelude.{◌≡◌, ℕ, ◌≤◌, List, [], ◌∷◌, ◌++◌, Bool, length, take}
use Rattle.lists.specs.Lists.{pick}
use Rattle.writer.specs.Writing.{be}
use Rattle.item.specs.declared.Item.{Item}
use Rattle.items.specs.declared.Items.{Items}
use Rattle.items.specs.Items.{listed}
use Rattle.config.specs.declared.Config.{Config}
use Rattle.authority.specs.declared.Witnessing.{Witnessing}
use Rattle.config.specs.Config.{traits_of}
use Rattle.weight.specs.declared.Weight.{Weight}
use Rattle.threshold.specs.declared.Threshold.{Threshold}
use Rattle.threshold.specs.Threshold.{is_simple, sizes_of, weights_in}

-- two words, the first one first: a sequence number, a weight
unfoldable pub words_bytes : ℕ → ℕ → List ℕ
words_bytes a b = be 8 a ++ be 8 b

-- "An item is a code byte and 32 bytes"
unfoldable pub item_bytes : Item → List ℕ
item_bytes x = x.code ∷ x.raw

-- the bytes of each, one after another
unfoldable pub each : {A : Type 0} → (A → List ℕ) → List A → List ℕ
each f [] = []
each f (x ∷ xs) = f x ++ each f xs

-- "A list is a count byte and its items"
unfoldable pub items_bytes : Items → List ℕ
items_bytes l = length (listed l) ∷ each item_bytes (listed l)

-- a count byte and bytes: config traits, the sizes of clauses
unfoldable pub counted : List ℕ → List ℕ
counted xs = length xs ∷ xs

unfoldable pub config_bytes : Config → List ℕ
config_bytes c = counted (traits_of c)

abbrev pub weight_bytes : Weight → List ℕ
weight_bytes w = words_bytes w.num w.den

-- "A threshold is tag 0 and a u64, or tag 1, a clause count byte, a size byte per clause, then the weights as numerator u64 and
-- denominator u64."
unfoldable pub threshold_bytes : Threshold → List ℕ
threshold_bytes t =
    pick (is_simple t)
    ((0 ∷ []) ++ be 8 t.simple)
    ((1 ∷ []) ++ (counted (sizes_of t) ++ each weight_bytes (take (weights_in t) t.weights)))

-- 0 or 1
abbrev pub flag_byte : Bool → ℕ
flag_byte b = pick b 1 0

-- "witnesses, toad, config, transferable 0 or 1"
unfoldable pub standing_bytes : Witnessing → Config → Bool → List ℕ
standing_bytes w c transferable =
    items_bytes w.witnesses ++ (be 4 w.toad ++ (config_bytes c ++ (flag_byte transferable ∷ [])))

-- "A record is a two-byte ASCII mark, a u16 body length": KS is 0x4B, 0x53
unfoldable pub frame_bytes : ℕ → List ℕ
frame_bytes size = (0x4B ∷ 0x53 ∷ []) ++ be 2 size

-- n is how many bytes xs has, and no more than `most`
pub record Sized (xs : List ℕ) (most : ℕ) (n : ℕ) : Type 0 where
  pub is : n ≡ length xs
  pub few : n ≤ most
