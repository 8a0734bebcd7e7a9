-- Facts about whole lists: what a test that came out true says, searches against `any`, and appended lists. Assumes nothing.
use mathlib.Core.Path.{◌≡◌, refl, sym, ◌∙◌, ap}
use mathlib.Core.List.{List, ◌∷◌, ◌++◌, []}
use mathlib.Core.Bool.{Bool, true, false}
use Prim.Native.Nat.{ℕ, zero, suc, ◌+◌, ◌-◌, ◌<◌, ◌≤◌}
use native.Mathlib.Omega.{arith}
use lib.Dec.{eqb}
use lib.ListN.{length, get_or}
use borrow.Author.Tests.{eqb-true, eq-eqb}
use Rattle.lists.specs.Lists.{pick, both, either, any, first_from, same_numbers, is_at}
use Rattle.std.specs.Prelude.{Option, Some, None}

-- true is not false
pub clash : {A : Type 0} → true ≡ false → A
clash e = let z : ◌≡◌ {A = ℕ} 0 1 = cc in absurd (omega arith)

pub both_true : (a b : Bool) → both a b ≡ true → (a ≡ true) × (b ≡ true)
both_true true b e = (refl, e)
both_true false b e = clash (sym e)

pub both_on : (a : Bool) → both a true ≡ a
both_on true = refl
both_on false = refl

pub both_off : (a : Bool) → both a false ≡ false
both_off true = refl
both_off false = refl

pub both_assoc : (a b c : Bool) → both a (both b c) ≡ both (both a b) c
both_assoc true b c = refl
both_assoc false b c = refl

pub both_in : (a b : Bool) → a ≡ true → b ≡ true → both a b ≡ true
both_in a b p q = rw (p, q)

-- a shape without a fault: few enough, the used ones fit, the others are zero
pub picks : (b f z : Bool) → ◌≡◌ {A = ℕ} (pick b (pick f (pick z 0 3) 3) 4) 0 → (b ≡ true) × ((f ≡ true) × (z ≡ true))
picks true true true e = (refl, (refl, refl))
picks true true false e = absurd (omega arith)
picks true false z e = absurd (omega arith)
picks false f z e = absurd (omega arith)

-- a search ends at a place exactly where some element has the property
pick_is : (b : Bool) (k : ℕ) (f : Option ℕ) (m : Bool) → is_at f ≡ m → is_at (pick b (Some k) f) ≡ either b m
pick_is true k f m e = refl
pick_is false k f m e = e

pub first_any : {A : Type 0} (f : A → Bool) (k : ℕ) (xs : List A) → is_at (first_from f k xs) ≡ any f xs
unfolding first_from any
first_any f k [] = refl
first_any f k (x ∷ xs) = pick_is (f x) k (first_from f (k + 1) xs) (any f xs) (first_any f (k + 1) xs)

-- and there its element has the property, and none before it has
abbrev pub FirstAt : {A : Type 0} → (A → Bool) → A → ℕ → List A → ℕ → Type 0
FirstAt f d k xs n = (k ≤ n) × ((n < k + length xs) × ((f (get_or xs (n - k) d) ≡ true) × ((j : ℕ) → j < n - k → f (get_or xs j d) ≡ false)))

abbrev place_of : Option ℕ → ℕ
place_of (Some k) = k
place_of None = 0

none_up_to : {A : Type 0} (f : A → Bool) (d x : A) (xs : List A) (m : ℕ) → f x ≡ false → ((j : ℕ) → j < m → f (get_or xs j d) ≡ false)
    → (j : ℕ) → j < suc m → f (get_or (x ∷ xs) j d) ≡ false
none_up_to f d x xs m t ih zero h = t
none_up_to f d x xs m t ih (suc j) h = ih j (omega (arith, h))

pub first_at : {A : Type 0} (f : A → Bool) (d : A) (k : ℕ) (xs : List A) (n : ℕ) → first_from f k xs ≡ Some n → FirstAt f d k xs n
unfolding first_from
first_at f d k [] n e = clash (sym (ap is_at e))
first_at f d k (x ∷ xs) n e = by_test (λ g. first_at f d (k + 1) xs n g) (f x) refl e
  where
    by_test : (first_from f (k + 1) xs ≡ Some n → FirstAt f d (k + 1) xs n) → (b : Bool) → f x ≡ b → pick b (Some k) (first_from f (k + 1) xs) ≡ Some n
        → FirstAt f d k (x ∷ xs) n
    by_test later true t g =
        let m : k ≡ n = ap place_of g in
        let z : n - k ≡ 0 = omega (arith, m) in
        (omega (arith, m), (omega (arith, m), (rw z t, λ j h. absurd (omega (arith, h, z)))))
    by_test later false t g =
        let ih : FirstAt f d (k + 1) xs n = later g in
        let l : k + 1 ≤ n = ih.0 in
        let r : n < k + 1 + length xs = ih.1.0 in
        let s : n - k ≡ suc (n - (k + 1)) = omega (arith, l) in
        (omega (arith, l), (omega (arith, r), (rw s ih.1.1.0, rw s (none_up_to f d x xs (n - (k + 1)) t ih.1.1.1))))

either_assoc : (a b c : Bool) → either a (either b c) ≡ either (either a b) c
either_assoc true b c = refl
either_assoc false b c = refl

pub any_append : {A : Type 0} (f : A → Bool) (xs ys : List A) → any f (xs ++ ys) ≡ either (any f xs) (any f ys)
unfolding any
any_append f [] ys = refl
any_append f (x ∷ xs) ys = ap (either (f x)) (any_append f xs ys) ∙ either_assoc (f x) (any f xs) (any f ys)

-- equal numbers all along are one list, and a list is the same as itself
pub same-numbers : (xs ys : List ℕ) → same_numbers xs ys ≡ true → xs ≡ ys
unfolding same_numbers
same-numbers [] [] e = refl
same-numbers [] (y ∷ ys) e = clash (sym e)
same-numbers (x ∷ xs) [] e = clash (sym e)
same-numbers (x ∷ xs) (y ∷ ys) e =
    let p = both_true (eqb x y) (same_numbers xs ys) e in
    let h : x ≡ y = eqb-true x y p.0 in
    let t : xs ≡ ys = same-numbers xs ys p.1 in
    cc

pub same_refl : (xs : List ℕ) → same_numbers xs xs ≡ true
unfolding same_numbers
same_refl [] = refl
same_refl (x ∷ xs) = rw (eq-eqb x x refl) (same_refl xs)
