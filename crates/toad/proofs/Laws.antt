-- The ample threshold against u32: 6,442,450,943 witnesses are the first whose threshold does not fit. Assumes nothing.
use mathlib.Core.Path.{◌≡◌, refl}
use Prim.Native.Nat.{ℕ, zero, suc, ◌-◌, ◌/◌, ◌^◌, ◌<◌, ◌≤◌, min, max}
use native.Mathlib.Nat.{le-min}
use native.Mathlib.Omega.{arith}
use borrow.Author.Tests.{le-ltb, eq-eqb, ne_eqb}
use Rattle.toad.specs.Toad.{up, majority, ample_of, ample_answer, not_taken}

abbrev floor_of : ℕ → ℕ
floor_of n = majority n (max 1 ((n - 1) / 3))

abbrev ceil_of : ℕ → ℕ
ceil_of n = majority n (max 1 (up (n - 1) 3))

pub ample-none : (n : ℕ) → n ≡ 0 → ample_of n ≡ 0
unfolding ample_of
ample-none n e = rw (eq-eqb n 0 e)

pub ample-some : (n : ℕ) → (n ≡ 0 → ⊥) → ample_of n ≡ min n (min (floor_of n) (ceil_of n))
unfolding ample_of
ample-some n e = rw (ne_eqb n 0 e)

floor_fits : (n : ℕ) → 0 < n → n < 6442450943 → floor_of n < 2 ^ 32
floor_fits n h g = omega arith

floor_over : (n : ℕ) → 6442450943 ≤ n → 2 ^ 32 ≤ floor_of n
floor_over n h = omega arith

ceil_over : (n : ℕ) → 6442450943 ≤ n → 2 ^ 32 ≤ ceil_of n
ceil_over n h = omega arith

least : (a b c most : ℕ) → b < most → min a (min b c) < most
least a b c most h = omega arith

pub ample_fits : (n : ℕ) → n < 6442450943 → ample_of n < 2 ^ 32
ample_fits zero g = rw (ample-none 0 refl) (omega arith)
ample_fits (suc m) g = rw (ample-some (suc m) (λ e. omega (arith, e))) (least (suc m) (floor_of (suc m)) (ceil_of (suc m)) (2 ^ 32) (floor_fits (suc m) (omega arith) g))

ample_over : (n : ℕ) → 6442450943 ≤ n → 2 ^ 32 ≤ ample_of n
ample_over n h = rw (ample-some n (λ e. omega (arith, e))) (le-min (omega arith) (le-min (floor_over n h) (ceil_over n h)))

pub ample_refused : (n : ℕ) → 6442450943 ≤ n → ample_answer n ≡ not_taken 39 n 0
ample_refused n h = rw (le-ltb _ _ (ample_over n h))
