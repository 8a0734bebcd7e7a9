-- Two words against the number that they stand for. Assumes nothing.
use mathlib.Core.Path.{◌≡◌, refl, sym, ◌∙◌, ap}
use mathlib.Core.Bool.{Bool, true, false}
use Prim.Native.Nat.{ℕ, ◌+◌, ◌*◌, ◌^◌, ◌<◌, ◌≤◌}
use native.Mathlib.Nat.{mul-add-div_right, mul-add-mod_self_right, div-eq_of_lt, mod-eq_of_lt, add-zero, mul-le-mul_right, div-add-mod'}
use native.Mathlib.Omega.{arith}
use lib.Dec.{eqb, ltb}
use borrow.Author.Tests.{lt-ltb, le-ltb, eqb-true, ltb-true, ltb-false}
use Rattle.lists.specs.Lists.{pick}
use Rattle.lists.proofs.Facts.{both_true}
use Rattle.number.specs.declared.Number.{Number}
use Rattle.std.specs.Prelude.{Some, None}
use Rattle.number.specs.Number.{value, words, same_number, next_of}

made : {a b c d : ℕ} → a ≡ c → b ≡ d → ◌≡◌ {A = Number} (record { high = a; low = b }) (record { high = c; low = d })
made e f = cc

-- the words of the number that two words stand for
pub words_of : (h l : ℕ) → l < 2 ^ 64 → words (h * 2 ^ 64 + l) ≡ record { high = h; low = l }
words_of h l lt =
    let p : 0 < 2 ^ 64 = omega arith in
    made (mul-add-div_right p h l ∙ (rw (div-eq_of_lt lt) (add-zero h))) (mul-add-mod_self_right h (2 ^ 64) l ∙ mod-eq_of_lt lt)

-- two digits below a base make less than its square
square : (base h l : ℕ) → h < base → l < base → h * base + l < base * base
square base h l p q = omega (arith, mul-le-mul_right base p)

-- the number after, by its words, where it has any
after : (n : Number) (h l : ℕ) → h < 2 ^ 64 → l < 2 ^ 64 → value n + 1 ≡ h * 2 ^ 64 + l → Some (record { high = h; low = l }) ≡ next_of n
unfolding next_of
after n h l p q e = rw (e, lt-ltb (h * 2 ^ 64 + l) (2 ^ 128) (square (2 ^ 64) h l p q), words_of h l q)

pub next_within : (n : Number) → n.low + 1 < 2 ^ 64 → n.high < 2 ^ 64 → Some (record { high = n.high; low = n.low + 1 }) ≡ next_of n
next_within n l h = after n n.high (n.low + 1) h l (omega arith)

pub next_carry : (n : Number) → n.low + 1 ≡ 2 ^ 64 → n.high + 1 < 2 ^ 64 → Some (record { high = n.high + 1; low = 0 }) ≡ next_of n
next_carry n l h = after n (n.high + 1) 0 h (omega arith) (omega arith)

last : (base h l : ℕ) → l + 1 ≡ base → h + 1 ≡ base → base * base ≤ h * base + l + 1
last base h l p q = let e : (h + 1) * base ≡ base * base = ap (λ (x : ℕ). x * base) q in omega (arith, e)

pub next_none : (n : Number) → n.low + 1 ≡ 2 ^ 64 → n.high + 1 ≡ 2 ^ 64 → None ≡ next_of n
unfolding next_of
next_none n l h = rw (le-ltb (value n + 1) (2 ^ 128) (last (2 ^ 64) n.high n.low l h))

-- equal in both words is equal
pub same_number_lem : (a b : Number) → same_number a b ≡ true → a ≡ b
unfolding same_number
same_number_lem a b e =
    let p = both_true (eqb a.high b.high) (eqb a.low b.low) e in
    made (eqb-true a.high b.high p.0) (eqb-true a.low b.low p.1)

-- two tests that hold together are one
ltb-same : (a b c d : ℕ) → (a < b → c < d) → (b ≤ a → d ≤ c) → ltb a b ≡ ltb c d
ltb-same a b c d f g = by_test (ltb a b) refl
  where
    by_test : (t : Bool) → ltb a b ≡ t → ltb a b ≡ ltb c d
    by_test true e = e ∙ sym (lt-ltb c d (f (ltb-true a b e)))
    by_test false e = e ∙ sym (le-ltb c d (g (ltb-false a b e)))

module _ (a b : Number) where
  pub below_low : a.high ≡ b.high → ltb a.low b.low ≡ ltb (value a) (value b)
  below_low e = ltb-same a.low b.low (value a) (value b) (λ h. omega (arith, e, h)) (λ h. omega (arith, e, h))

  pub below_high : (a.high ≡ b.high → ⊥) → a.low < 2 ^ 64 → b.low < 2 ^ 64 → ltb a.high b.high ≡ ltb (value a) (value b)
  below_high ne p q = ltb-same a.high b.high (value a) (value b) (λ h. omega (arith, h)) (λ h. omega (arith, h, ne))

-- the words of a number stand for it, so the number after is one more
value-words : (v : ℕ) → value (words v) ≡ v
value-words v = div-add-mod' v (2 ^ 64)

pub next-value : (n m : Number) → next_of n ≡ Some m → value m ≡ value n + 1
unfolding next_of
next-value n m e = by_test (ltb (value n + 1) (2 ^ 128)) e
  where
    by_test : (t : Bool) → pick t (Some (words (value n + 1))) None ≡ Some m → value m ≡ value n + 1
    by_test true p = let q : words (value n + 1) ≡ m = cc in ap value (sym q) ∙ value-words (value n + 1)
    by_test false p = let z : ◌≡◌ {A = ℕ} 0 1 = cc in absurd (omega arith)
