-- The positions of first ones as the bits of a word. "Store their positions in the lent input and compare there."
use Rattle.std.specs.Prelude.{ℕ, ◌^◌, List, Bool, false, not, ltb}
use Rattle.std.specs.Int.Bits.{bit_or}
use Rattle.lists.specs.Lists.{pick, any}
use Rattle.places.specs.Places.{set_of, bit_at}

-- a position is among them, and one more position
abbrev pub has_first : ℕ → ℕ → Bool
has_first set p = pick (ltb p 64) (bit_at set p) false

abbrev pub with_first : ℕ → ℕ → ℕ
with_first set p = pick (ltb p 64) (bit_or set (2 ^ p)) set

-- "Of copies .. the first decides": which of the elements at the first n positions equal none before them. `at` is the element at a position,
-- `before` those that stand before it.
unfoldable pub first_ones : {A : Type 0} → (A → A → Bool) → (ℕ → A) → (ℕ → List A) → ℕ → ℕ
first_ones same at before n = set_of n (λ p. not (any (same (at p)) (before p)))
