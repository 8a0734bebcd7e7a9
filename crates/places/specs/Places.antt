-- Sets of places below 16 as the bits of a u16. "The number of distinct places is the number of ones in a 16-bit set."
use Rattle.std.specs.Prelude.{ℕ, zero, suc, ◌+◌, ◌*◌, ◌/◌, ◌%◌, ◌^◌, List, [], ◌∷◌, ◌++◌, Bool, eqb, ltb}
use Rattle.std.specs.Int.Bits.{bit_or}
use Rattle.lists.specs.Lists.{pick, any}

-- the places below n that have the property, rising: a set of places as a list without repeats
unfoldable pub chosen : ℕ → (ℕ → Bool) → List ℕ
chosen zero f = []
chosen (suc n) f = chosen n f ++ pick (f n) (n ∷ []) []

-- a number is in a list
abbrev pub among : List ℕ → ℕ → Bool
among ps k = any (eqb k) ps

-- the number whose bit k, for each k below n, is one where the property holds
unfoldable pub set_of : ℕ → (ℕ → Bool) → ℕ
set_of zero f = 0
set_of (suc n) f = pick (f n) 1 0 * 2 ^ n + set_of n f

-- bit k of a set, and the places whose bits are one
abbrev pub bit_at : ℕ → ℕ → Bool
bit_at set k = eqb (set / 2 ^ k % 2) 1

abbrev pub places_in : ℕ → List ℕ
places_in set = chosen 16 (bit_at set)

-- a set with one more place, where that is below 16; and a set's places below n
abbrev pub with_place : ℕ → ℕ → ℕ
with_place set p = pick (ltb p 16) (bit_or set (2 ^ p)) set

abbrev pub cut_to : ℕ → ℕ → ℕ
cut_to n set = pick (ltb n 16) (set % 2 ^ n) set
