-- A search among the first ones alone finds what a search among all finds: over any element, any list that grows by one element at a time, and any
-- transitive comparison, for what equals a copy then equals the one copied. Assumes nothing.
--     any_more                           a list with one more element
--     none_yet_lem, first-kept, first_more   the set before any element, and with a copy or a first one more
--     is_copy, no_copy                   one step of the search: a first one that is equal; a copy passed over or a first one that differs
use mathlib.Core.Path.{◌≡◌, refl, sym, ap, ◌∙◌}
use mathlib.Core.Bool.{Bool, true, false, not}
use mathlib.Core.List.{List, ◌∷◌, ◌++◌, []}
use Prim.Native.Nat.{ℕ, zero, suc, ◌+◌, ◌*◌, ◌-◌, ◌^◌, ◌<◌, ◌≤◌}
use native.Mathlib.Nat.{one-mul, zero-mul, zero-add, add-zero}
use native.Mathlib.Numerals.{add-one}
use native.Mathlib.Omega.{arith}
use lib.Pow.{pow_pos}
use lib.Bits.{bit_or, or_block, or_zero_r}
use borrow.Author.Tests.{lt-ltb}
use Rattle.lists.specs.Lists.{both, either, any}
use Rattle.lists.proofs.Facts.{any_append, both_true, clash}
use Rattle.places.specs.Places.{set_of}
use Rattle.places.proofs.Laws.{set-lt, bit_set, either_true, either_false}
use Rattle.firsts.specs.Firsts.{has_first, with_first, first_ones}

-- ---- one more element at the end
pub any_more : {A : Type 0} (f : A → Bool) (xs : List A) (x : A) → any f (xs ++ (x ∷ [])) ≡ either (any f xs) (f x)
unfolding any
any_more f xs x = any_append f xs (x ∷ []) ∙ ap (either (any f xs)) (either_false (f x))

-- what equals an element that equals one of a list equals one of that list
through : {A : Type 0} (same : A → A → Bool) → ((x y z : A) → same x y ≡ true → same y z ≡ true → same x z ≡ true)
    → (x y : A) (zs : List A) → same x y ≡ true → any (same y) zs ≡ true → any (same x) zs ≡ true
unfolding any
through same trans x y [] e f = clash (sym f)
through same trans x y (z ∷ zs) e f = by_test (same y z) refl f (through same trans x y zs e)
  where
    by_test : (b : Bool) → same y z ≡ b → either b (any (same y) zs) ≡ true → (any (same y) zs ≡ true → any (same x) zs ≡ true)
        → either (same x z) (any (same x) zs) ≡ true
    by_test true d g more = rw (trans x y z e d)
    by_test false d g more = rw (more g) (either_true (same x z))

module _ {A : Type 0} (same : A → A → Bool) (at : ℕ → A) (before : ℕ → List A) where
  abbrev firsts : ℕ → ℕ
  firsts n = first_ones same at before n

  abbrev repeats : ℕ → Bool
  repeats p = any (same (at p)) (before p)

  -- ---- the set
  pub none_yet_lem : firsts 0 ≡ 0
  unfolding first_ones set_of
  none_yet_lem = refl

  pub first-kept : (i : ℕ) → repeats i ≡ true → firsts i ≡ firsts (i + 1)
  unfolding first_ones set_of
  first-kept i e = rw (add-one i) (rw (e, zero-mul, zero-add))

  pub first_more : (i : ℕ) → i < 64 → repeats i ≡ false → with_first (firsts i) i ≡ firsts (i + 1)
  unfolding first_ones set_of
  first_more i h e =
      let rest : ℕ = set_of i (λ p. not (repeats p)) in
      let low : rest < 2 ^ i = set-lt i (λ p. not (repeats p)) in
      let bits : bit_or (0 * 2 ^ i + rest) (1 * 2 ^ i + 0) ≡ 1 * 2 ^ i + bit_or rest 0 = or_block i 0 1 rest 0 low (pow_pos i) in
      let both : bit_or rest (2 ^ i) ≡ 2 ^ i + rest = simp (zero-mul, zero-add, one-mul, add-zero, or_zero_r) at bits in
      rw (add-one i) (rw (lt-ltb i 64 h, e, one-mul) both)

  has_first_lem : (i p : ℕ) → p < i → i ≤ 64 → has_first (firsts i) p ≡ not (repeats p)
  unfolding first_ones
  has_first_lem i p h g = rw (lt-ltb p 64 (omega arith)) (bit_set i (λ k. not (repeats k)) p h)

  -- ---- the search for x among the first i: none of those before position j equals it
  module _ (trans : (a b c : A) → same a b ≡ true → same b c ≡ true → same a c ≡ true) (n : ℕ) (next : (p : ℕ) → p < n → before (p + 1) ≡ before p ++ (at p ∷ [])) (x : A) where
    one_more_lem : (j : ℕ) → j < n → any (same x) (before (j + 1)) ≡ either (any (same x) (before j)) (same x (at j))
    one_more_lem j h = rw (next j h) (any_more (same x) (before j) (at j))

    kept : (j k : ℕ) → j + k ≤ n → any (same x) (before j) ≡ true → any (same x) (before (j + k)) ≡ true
    kept j zero h e = rw add-zero e
    kept j (suc k) h e = let s : j + suc k ≡ j + k + 1 = omega arith in rw s (one_more_lem (j + k) (omega arith) ∙ rw (kept j k (omega arith) e))

    pub is_copy : (i j : ℕ) → j < i → i ≤ n → both (has_first (firsts i) j) (same x (at j)) ≡ true → any (same x) (before i) ≡ true
    is_copy i j h g e =
        let same_here : same x (at j) ≡ true = (both_true (has_first (firsts i) j) (same x (at j)) e).1 in
        let here : any (same x) (before (j + 1)) ≡ true = one_more_lem j (omega arith) ∙ rw same_here (either_true (any (same x) (before j))) in
        let end : j + 1 + (i - (j + 1)) ≡ i = omega arith in
        rw end at (kept (j + 1) (i - (j + 1)) (omega arith) here)

    pub no_copy : (i j : ℕ) → j < i → i ≤ n → i ≤ 64 → any (same x) (before j) ≡ false → both (has_first (firsts i) j) (same x (at j)) ≡ false
        → any (same x) (before (j + 1)) ≡ false
    no_copy i j h g w e f = one_more_lem j (omega arith) ∙ rw (e, differs (repeats j) (same x (at j)) refl refl (rw (has_first_lem i j h w) at f))
      where
        -- a copy that equalled x would have its first one equal x too
        differs : (r b : Bool) → repeats j ≡ r → same x (at j) ≡ b → both (not r) b ≡ false → b ≡ false
        differs r false d k m = refl
        differs true true d k m = clash (sym (through same trans x (at j) (before j) k d) ∙ e)
        differs false true d k m = m
