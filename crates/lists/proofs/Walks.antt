-- What is left of a list, place by place: the laws that a loop cites, over any element and any property. Assumes nothing.
--     head_of              the element at a place stands first in what is left
--     any-, first-         what one more place does to what is left; `-end`: nothing is left
--     same-                the same along two lists of numbers
use mathlib.Core.Path.{◌≡◌, refl}
use mathlib.Core.List.{List, [], ◌∷◌}
use mathlib.Core.Bool.{Bool, true, false, ◌&&◌}
use Prim.Native.Nat.{ℕ, zero, suc, ◌<◌, ◌≤◌, ◌+◌}
use native.Mathlib.Numerals.{add-one}
use native.Mathlib.Omega.{arith}
use lib.ListN.{length, drop, get_or, drop_of_length-le}
use lib.Seq.{drop-cons}
use lib.Dec.{eqb}
use borrow.Author.Tests.{ne_eqb}
use Rattle.lists.specs.Lists.{both, any, first_from, same_numbers}
use Rattle.std.specs.Prelude.{Some, None}

-- an element that is there is the same under any default
pub any_default : {A : Type 0} (d e : A) (xs : List A) (i : ℕ) → i < length xs → get_or xs i d ≡ get_or xs i e
any_default d e [] i h = absurd (omega arith)
any_default d e (x ∷ xs) zero h = refl
any_default d e (x ∷ xs) (suc i) h = any_default d e xs i (omega arith)

pub head_of : {A : Type 0} (d : A) (xs : List A) (i : ℕ) → i < length xs → drop i xs ≡ get_or xs i d ∷ drop (i + 1) xs
head_of d xs i h = rw (add-one i, drop-cons xs i d h)

module _ {A : Type 0} (f : A → Bool) (xs : List A) (x : A) (i : ℕ) (e : drop i xs ≡ x ∷ drop (i + 1) xs) where
  pub any_here : f x ≡ true → any f (drop i xs) ≡ true
  unfolding any
  any_here h = rw (e, h)

  pub any_next : f x ≡ false → any f (drop i xs) ≡ any f (drop (i + 1) xs)
  unfolding any
  any_next h = rw (e, h)

  pub first_here : f x ≡ true → first_from f i (drop i xs) ≡ Some i
  unfolding first_from
  first_here h = rw (e, h)

  pub first_next : f x ≡ false → first_from f i (drop i xs) ≡ first_from f (i + 1) (drop (i + 1) xs)
  unfolding first_from
  first_next h = rw (e, h)

module _ {A : Type 0} (f : A → Bool) (xs : List A) (i : ℕ) (h : length xs ≤ i) where
  pub any-end : any f (drop i xs) ≡ false
  unfolding any
  any-end = rw (drop_of_length-le xs h)

  pub first-end : first_from f i (drop i xs) ≡ None
  unfolding first_from
  first-end = rw (drop_of_length-le xs h)

module _ (a b : List ℕ) (i : ℕ) (ha : i < length a) (hb : i < length b) where
  pub same_stop : (get_or a i 0 ≡ get_or b i 0 → ⊥) → same_numbers (drop i a) (drop i b) ≡ false
  unfolding same_numbers
  same_stop e = rw (head_of 0 a i ha, head_of 0 b i hb) (rw (ne_eqb _ _ e))

  -- without a way out before the end: what was the same so far, and this place
  pub same_more : (so : Bool) → both so (same_numbers (drop i a) (drop i b))
      ≡ both (so && eqb (get_or a i 0) (get_or b i 0)) (same_numbers (drop (i + 1) a) (drop (i + 1) b))
  unfolding same_numbers
  same_more true = rw (head_of 0 a i ha, head_of 0 b i hb)
  same_more false = refl

pub same_end : (a b : List ℕ) (i : ℕ) → length a ≤ i → length b ≤ i → same_numbers (drop i a) (drop i b) ≡ true
unfolding same_numbers
same_end a b i h g = rw (drop_of_length-le a h, drop_of_length-le b g)

pub same_over : (a b : List ℕ) (i : ℕ) (so : Bool) → length a ≤ i → length b ≤ i → both so (same_numbers (drop i a) (drop i b)) ≡ so
same_over a b i true h g = same_end a b i h g
same_over a b i false h g = refl
