-- A set of places as a number, as a property and as a rising list. Assumes nothing.
--     bit_set, set_bits    the bits of the number of a property are the property; a number is the set of its bits
--     with-set, cut-set    one more place, and the places below a bound
--     set_same, chosen-same, places-set, set-none   only the places below n matter; the list of a set; the empty set
--     ones-set, chosen_few, among-chosen   the list of a property: how long it is, and what is in it
use mathlib.Core.Path.{◌≡◌, refl, sym, ap, ap₂, ◌∙◌}
use mathlib.Core.Bool.{Bool, true, false}
use mathlib.Core.List.{List, ◌∷◌, ◌++◌, []}
use mathlib.Core.Logic.{⊎_elim}
use Prim.Native.Nat.{ℕ, zero, suc, ◌+◌, ◌-◌, ◌*◌, ◌/◌, ◌%◌, ◌^◌, ◌<◌, ◌≤◌}
use native.Mathlib.Nat.{one-mul, zero-mul, zero-add, add-zero, mod-lt, div-eq_of_lt, mul-add-div_right, mul-add-mod_self_right, pow-suc, pow-succ', mul_assoc, not-suc-le-zero, eq-or-lt_of_le, le_of_suc-le-suc}
use native.Mathlib.Numerals.{add-one}
use native.Mathlib.Omega.{arith}
use lib.ListN.{length, take, get_or, length-append}
use lib.Seq.{take-suc}
use lib.Dec.{ltb, eqb}
use lib.Pow.{pow-lt, pow_mono, pow_pos, pow-add, split, high, shr_lt}
use lib.Bits.{bit_or, or_block, or_zero_r}
use lib.Count.{ones, ones_cat}
use borrow.Author.Tests.{lt-ltb, le-ltb, ltb-true, ltb-false, eq-eqb, ne_eqb, eqb-true, eqb-false}
use Rattle.lists.specs.Lists.{pick, both, either, any}
use Rattle.lists.proofs.Facts.{any_append, both_on, both_off}
use Rattle.places.specs.Places.{chosen, among, set_of, bit_at, places_in, with_place, cut_to}

abbrev bit : Bool → ℕ
bit b = pick b 1 0

-- ---- the number of a property, and its bits
pub set-lt : (n : ℕ) (f : ℕ → Bool) → set_of n f < 2 ^ n
unfolding set_of
set-lt zero f = omega arith
set-lt (suc n) f = rw pow-suc (bound (f n) (set_of n f) (2 ^ n) (set-lt n f))
  where
    bound : (b : Bool) (r m : ℕ) → r < m → bit b * m + r < m * 2
    bound true r m h = omega arith
    bound false r m h = omega arith

pub set_same : (n : ℕ) (f g : ℕ → Bool) → ((k : ℕ) → k < n → f k ≡ g k) → set_of n f ≡ set_of n g
unfolding set_of
set_same zero f g h = refl
set_same (suc n) f g h = ap₂ (λ (b : Bool) (r : ℕ). bit b * 2 ^ n + r) (h n (omega arith)) (set_same n f g (λ k l. h k (omega arith)))

pub set-none : (n : ℕ) → set_of n (λ _. false) ≡ 0
unfolding set_of
set-none zero = refl
set-none (suc n) = rw (set-none n, zero-mul)

-- the bits below n do not see what stands from n on
bit_low : (n a r k : ℕ) → k < n → bit_at (a * 2 ^ n + r) k ≡ bit_at r k
bit_low n a r k h = let e : (n - suc k) + suc k ≡ n = omega arith in ap (λ (x : ℕ). eqb x 1) (rw e at (past (n - suc k)))
  where
    past : (j : ℕ) → (a * 2 ^ (j + suc k) + r) / 2 ^ k % 2 ≡ r / 2 ^ k % 2
    past j =
        let e : a * 2 ^ (j + suc k) ≡ a * 2 ^ j * 2 * 2 ^ k = simp (pow-add, pow-succ', mul_assoc) in
        rw (e, mul-add-div_right (pow_pos k) (a * 2 ^ j * 2) r, mul-add-mod_self_right (a * 2 ^ j) 2 (r / 2 ^ k))

bit_mod : (n s k : ℕ) → k < n → bit_at s k ≡ bit_at (s % 2 ^ n) k
bit_mod n s k l = rw (split s n) at (bit_low n (s / 2 ^ n) (s % 2 ^ n) k l)

-- the bit at n of a number that has one
bit_top : (n : ℕ) (b : Bool) (r : ℕ) → r < 2 ^ n → bit_at (bit b * 2 ^ n + r) n ≡ b
bit_top n b r h = rw (high (bit b) n h) (is b)
  where
    is : (c : Bool) → eqb (bit c % 2) 1 ≡ c
    is true = refl
    is false = refl

pub bit_set : (n : ℕ) (f : ℕ → Bool) (k : ℕ) → k < n → bit_at (set_of n f) k ≡ f k
unfolding set_of
bit_set zero f k h = absurd (not-suc-le-zero h)
bit_set (suc n) f k h =
    ⊎_elim (λ e. rw e (bit_top n (f n) (set_of n f) (set-lt n f))) (λ l. bit_low n (bit (f n)) (set_of n f) k l ∙ bit_set n f k l)
    (eq-or-lt_of_le (le_of_suc-le-suc h))

-- a number below 2^n is the set of its bits
pub set_bits : (n s : ℕ) → s < 2 ^ n → set_of n (bit_at s) ≡ s
unfolding set_of
set_bits zero s h = omega arith
set_bits (suc n) s h =
    let g : 1 + n ≡ suc n = omega arith in
    let top : bit (bit_at s n) ≡ s / 2 ^ n = one (s / 2 ^ n) (shr_lt 1 n (rw g h)) in
    let rest : set_of n (bit_at s) ≡ s % 2 ^ n = set_same n (bit_at s) (bit_at (s % 2 ^ n)) (bit_mod n s) ∙ set_bits n (s % 2 ^ n) (mod-lt s (pow_pos n)) in
    rw (top, rest) (split s n)
  where
    one : (x : ℕ) → x < 2 → bit (eqb (x % 2) 1) ≡ x
    one zero l = refl
    one (suc zero) l = refl
    one (suc (suc x)) l = absurd (omega arith)

-- ---- one more place
abbrev pub with : ℕ → (ℕ → Bool) → ℕ → Bool
with p f k = either (f k) (eqb p k)

pub either_true : (x : Bool) → either x true ≡ true
either_true true = refl
either_true false = refl

pub either_false : (x : Bool) → either x false ≡ x
either_false true = refl
either_false false = refl

with_other : (f : ℕ → Bool) (p k : ℕ) → (p ≡ k → ⊥) → f k ≡ with p f k
with_other f p k ne = rw (ne_eqb p k ne) (sym (either_false (f k)))

or_bit : (b : Bool) → bit_or (bit b) 1 ≡ 1
or_bit true = refl
or_bit false = refl

or_set : (n : ℕ) (f : ℕ → Bool) (p : ℕ) → p < n → bit_or (set_of n f) (2 ^ p) ≡ set_of n (with p f)
unfolding set_of
or_set zero f p h = absurd (not-suc-le-zero h)
or_set (suc n) f p h = ⊎_elim last (λ l. below l (or_set n f p l)) (eq-or-lt_of_le (le_of_suc-le-suc h))
  where
    last : p ≡ n → bit_or (set_of (suc n) f) (2 ^ p) ≡ set_of (suc n) (with p f)
    last e =
        let place : 2 ^ p ≡ 1 * 2 ^ n + 0 = rw (e, one-mul, add-zero) in
        let top : bit_or (bit (f n)) 1 ≡ bit (with p f n) = rw (or_bit (f n), eq-eqb p n e, either_true (f n)) in
        let rest : set_of n f ≡ set_of n (with p f) = set_same n f (with p f) (λ k l. with_other f p k (λ d. omega (arith, d, e))) in
        rw (place, or_block n (bit (f n)) 1 (set_of n f) 0 (set-lt n f) (pow_pos n), top, or_zero_r (set_of n f), rest)

    below : p < n → bit_or (set_of n f) (2 ^ p) ≡ set_of n (with p f) → bit_or (set_of (suc n) f) (2 ^ p) ≡ set_of (suc n) (with p f)
    below l ih =
        let place : 2 ^ p ≡ 0 * 2 ^ n + 2 ^ p = rw (zero-mul, zero-add) in
        let top : bit_or (bit (f n)) 0 ≡ bit (with p f n) = rw (or_zero_r (bit (f n)), ← with_other f p n (λ d. omega (arith, d))) in
        ap (bit_or (set_of (suc n) f)) place ∙ or_block n (bit (f n)) 0 (set_of n f) (2 ^ p) (set-lt n f) (pow-lt l) ∙ rw (top, ih)

pub with-set : (f : ℕ → Bool) (p : ℕ) → with_place (set_of 16 f) p ≡ set_of 16 (with p f)
with-set f p = by_test (ltb p 16) refl
  where
    by_test : (b : Bool) → ltb p 16 ≡ b → with_place (set_of 16 f) p ≡ set_of 16 (with p f)
    by_test true e = rw e (or_set 16 f p (ltb-true p 16 e))
    by_test false e = rw e (set_same 16 f (with p f) (λ k l. with_other f p k (λ d. let h = ltb-false p 16 e in omega (arith, d))))

-- ---- the places below a bound
abbrev pub below : ℕ → (ℕ → Bool) → ℕ → Bool
below n f k = both (ltb k n) (f k)

mod-set : (m n : ℕ) (f : ℕ → Bool) → n ≤ m → set_of m f % 2 ^ n ≡ set_of m (below n f)
mod-set m n f h =
    let cut : set_of m f % 2 ^ n < 2 ^ n = mod-lt (set_of m f) (pow_pos n) in
    let fits : set_of m f % 2 ^ n < 2 ^ m = omega (arith, cut, pow_mono h) in
    sym (set_bits m (set_of m f % 2 ^ n) fits) ∙ set_same m (bit_at (set_of m f % 2 ^ n)) (below n f) (λ k l. by_test k l cut (ltb k n) refl)
  where
    by_test : (k : ℕ) → k < m → set_of m f % 2 ^ n < 2 ^ n → (b : Bool) → ltb k n ≡ b → bit_at (set_of m f % 2 ^ n) k ≡ below n f k
    by_test k l cut true e = rw e (sym (bit_mod n (set_of m f) k (ltb-true k n e)) ∙ bit_set m f k l)
    by_test k l cut false e =
        let none : set_of m f % 2 ^ n < 2 ^ k = omega (arith, cut, pow_mono (ltb-false k n e)) in
        rw (e, div-eq_of_lt none)

pub cut-set : (n : ℕ) (f : ℕ → Bool) → cut_to n (set_of 16 f) ≡ set_of 16 (below n f)
cut-set n f = by_test (ltb n 16) refl
  where
    by_test : (b : Bool) → ltb n 16 ≡ b → cut_to n (set_of 16 f) ≡ set_of 16 (below n f)
    by_test true e = rw e (mod-set 16 n f (let h = ltb-true n 16 e in omega arith))
    by_test false e = rw e (set_same 16 f (below n f) (λ k l. let h = ltb-false n 16 e in rw (lt-ltb k n (omega arith))))

-- ---- the rising list of a property
pub chosen-same : (n : ℕ) (f g : ℕ → Bool) → ((k : ℕ) → k < n → f k ≡ g k) → chosen n f ≡ chosen n g
unfolding chosen
chosen-same zero f g h = refl
chosen-same (suc n) f g h = ap₂ (λ (ps : List ℕ) (b : Bool). ps ++ pick b (n ∷ []) []) (chosen-same n f g (λ k l. h k (omega arith))) (h n (omega arith))

pub places-set : (f : ℕ → Bool) → places_in (set_of 16 f) ≡ chosen 16 f
places-set f = chosen-same 16 (bit_at (set_of 16 f)) f (bit_set 16 f)

length-one : (b : Bool) (n : ℕ) → length (pick b (n ∷ []) []) ≡ bit b
length-one true n = refl
length-one false n = refl

bit_le : (b : Bool) → bit b ≤ 1
bit_le true = omega arith
bit_le false = omega arith

length-next : (n : ℕ) (f : ℕ → Bool) → length (chosen (suc n) f) ≡ length (chosen n f) + bit (f n)
unfolding chosen
length-next n f = rw (length-append (chosen n f) (pick (f n) (n ∷ []) []), length-one (f n) n)

pub chosen_few : (n : ℕ) (f : ℕ → Bool) → length (chosen n f) ≤ n
unfolding chosen
chosen_few zero f = omega arith
chosen_few (suc n) f = omega (arith, length-next n f, chosen_few n f, bit_le (f n))

pub ones-set : (n : ℕ) (f : ℕ → Bool) → ones (set_of n f) ≡ length (chosen n f)
unfolding set_of chosen ones
ones-set zero f = refl
ones-set (suc n) f =
    let e = ones_cat n (bit (f n)) (set_of n f) (set-lt n f) in
    omega (arith, e, ones_bit (f n), ones-set n f, length-next n f)
  where
    ones_bit : (b : Bool) → ones (bit b) ≡ bit b
    ones_bit true = refl
    ones_bit false = refl

-- a number below 2^16 has as many ones as places
pub ones_places : (s : ℕ) → s < 2 ^ 16 → ones s ≡ length (places_in s)
ones_places s h = rw (set_bits 16 s h) at (ones-set 16 (bit_at s))

pub eqb_sym : (a b : ℕ) → eqb a b ≡ eqb b a
eqb_sym a b = by_test (eqb b a) refl
  where
    by_test : (t : Bool) → eqb b a ≡ t → eqb a b ≡ t
    by_test true e = eq-eqb a b (sym (eqb-true b a e))
    by_test false e = ne_eqb a b (λ d. eqb-false b a e (sym d))

-- what is in it
pub among-chosen : (n : ℕ) (f : ℕ → Bool) (k : ℕ) → among (chosen n f) k ≡ below n f k
unfolding chosen any
among-chosen zero f k = rw (le-ltb k 0 (omega arith))
among-chosen (suc n) f k =
    any_append (eqb k) (chosen n f) (pick (f n) (n ∷ []) []) ∙ ap₂ either (among-chosen n f k) (last (f n)) ∙ by_test (eqb k n) (ltb k n) refl refl
  where
    last : (b : Bool) → any (eqb k) (pick b (n ∷ []) []) ≡ both b (eqb k n)
    last true = either_false (eqb k n)
    last false = refl

    by_test : (a b : Bool) → eqb k n ≡ a → ltb k n ≡ b → either (below n f k) (both (f n) (eqb k n)) ≡ below (suc n) f k
    by_test true b g e =
        let h = eqb-true k n g in
        rw (g, le-ltb k n (omega arith), lt-ltb k (suc n) (omega arith)) (both_on (f n) ∙ ap f (sym h))
    by_test false true g e = let h = ltb-true k n e in rw (e, g, lt-ltb k (suc n) (omega arith), both_off (f n)) (either_false (f k))
    by_test false false g e =
        let h = ltb-false k n e in
        let d = eqb-false k n g in
        rw (e, g, le-ltb k (suc n) (omega arith)) (both_off (f n))

-- ---- a list of places, one by one
among_more : (ps : List ℕ) (p k : ℕ) → with p (among ps) k ≡ among (ps ++ (p ∷ [])) k
unfolding any
among_more ps p k = rw (any_append (eqb k) ps (p ∷ []), eqb_sym k p, either_false (eqb p k))

pub among_next : (ps : List ℕ) (set i : ℕ) → i < length ps → set ≡ set_of 16 (among (take i ps))
    → with_place set (get_or ps i 0) ≡ set_of 16 (among (take (i + 1) ps))
among_next ps set i h e =
    rw (e, add-one i, take-suc ps i 0 h)
    (with-set (among (take i ps)) (get_or ps i 0) ∙ set_same 16 _ _ (λ k l. among_more (take i ps) (get_or ps i 0) k))

pub among_none : 0 ≡ set_of 16 (among [])
unfolding any
among_none = sym (set-none 16)
