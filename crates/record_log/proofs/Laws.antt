-- A byte string's records one at a time. Assumes nothing.
use mathlib.Core.Path.{◌≡◌, refl, ap}
use mathlib.Core.Bool.{Bool, true, false}
use mathlib.Core.List.{List, ◌∷◌, []}
use Prim.Native.Nat.{ℕ, zero, suc, ◌+◌, ◌<◌, ◌≤◌}
use native.Mathlib.Omega.{arith}
use borrow.Author.Tests.{leb-true}
use lib.Dec.{leb}
use lib.ListN.{length, take, drop, length-drop}
use Rattle.lists.specs.Lists.{pick, both}
use Rattle.state.specs.declared.Holder.{Holder}
use Rattle.layout.specs.Records.{content_of, First, record_of, truncated, first_of, next_in, mark_of, body_length}
use Rattle.receive.specs.Received.{first_taken}
use Rattle.record_log.specs.Log.{records_from, records_of, given}

-- ---- where the next record starts: past a byte at least, and not past the end
pub record Bounds (s : List ℕ) (f : First) : Type 0 where
  pub some : 1 ≤ next_in s f
  pub within : next_in s f ≤ length s

bounds_by : (s : List ℕ) → 0 < length s → (t u : Bool) → leb (4 + body_length s) (length s) ≡ u
    → Bounds s (pick (both t u) (record_of (mark_of s) (content_of (mark_of s) (take (body_length s) (drop 4 s))) (4 + body_length s)) truncated)
bounds_by s h true true p = record { some = omega arith; within = leb-true (4 + body_length s) (length s) p }
bounds_by s h true false p = record { some = h; within = omega arith }
bounds_by s h false u p = record { some = h; within = omega arith }

pub bounds : (s : List ℕ) → 0 < length s → Bounds s (first_of s)
unfolding first_of
bounds s h = bounds_by s h (leb 4 (length s)) (leb (4 + body_length s) (length s)) refl

-- ---- the records of a byte string: the first, and those behind it
length_rest : (s : List ℕ) (k n : ℕ) → 1 ≤ k → length s ≤ suc n → length (drop k s) ≤ n
length_rest s k n p q = simp length-drop (omega arith)

steps_enough : (n m : ℕ) (s : List ℕ) → length s ≤ n → length s ≤ m → records_from n s ≡ records_from m s
unfolding records_from
steps_enough zero zero s p q = refl
steps_enough zero (suc m) [] p q = refl
steps_enough zero (suc m) (x ∷ xs) p q = absurd (omega arith)
steps_enough (suc n) zero [] p q = refl
steps_enough (suc n) zero (x ∷ xs) p q = absurd (omega arith)
steps_enough (suc n) (suc m) [] p q = refl
steps_enough (suc n) (suc m) (x ∷ xs) p q =
    let s = x ∷ xs in
    let k = next_in s (first_of s) in
    let b : 1 ≤ k = (bounds s (omega arith)).some in
    ap (λ (fs : List First). first_of s ∷ fs) (steps_enough n m (drop k s) (length_rest s k n b p) (length_rest s k m b q))

pub records_none : (s : List ℕ) → length s ≤ 0 → records_of s ≡ []
unfolding records_from
records_none [] p = refl
records_none (x ∷ xs) p = absurd (omega arith)

pub records_next : (s : List ℕ) → 0 < length s → records_of s ≡ first_of s ∷ records_of (drop (next_in s (first_of s)) s)
unfolding records_from
records_next [] p = absurd (omega arith)
records_next (x ∷ xs) p =
    let s = x ∷ xs in
    let k = next_in s (first_of s) in
    let b : 1 ≤ k = (bounds s p).some in
    ap (λ (fs : List First). first_of s ∷ fs) (steps_enough (length xs) (length (drop k s)) (drop k s) (length_rest s k (length xs) b (omega arith)) (omega arith))

-- ---- the one-record call, by parts
pub call_given : (h : Holder) (end : ℕ) (f : First) → (first_taken h end f).offered ≡ given h f
call_given h end (record_of mark c next) = refl
call_given h end truncated = refl
