-- Thresholds by their places: the total of the sizes as a loop adds them, arrays as loops fill them, and the threshold by its
-- places and by its value. Assumes nothing.
--     total_..      what a loop over the sizes has read, and has yet to read
--     pass_..       bytes that are stepped over: where there is room, and where there is not
--     fill_..       an array of 16 that is filled from its place
--     threshold_values   scanning a threshold and copying it after is reading it
use mathlib.Core.Path.{◌≡◌, refl, sym, ap, ◌∙◌}
use mathlib.Core.Bool.{Bool, true, false}
use mathlib.Core.List.{List, ◌∷◌, ◌++◌, []}
use Prim.Native.Nat.{ℕ, zero, suc, ◌+◌, ◌*◌, ◌-◌, ◌≤◌, ◌<◌}
use native.Mathlib.Numerals.{add-one}
use native.Mathlib.Omega.{arith}
use lib.Dec.{leb, ltb}
use lib.ListN.{length, take, drop, get_or, replicate}
use lib.Seq.{drop-cons}
use Rattle.std.specs.Int.{w64, from_be_bytes}
use Rattle.std.proofs.lemmas.List.{drop-replicate}
use borrow.Author.Tests.{le-leb, lt-leb, leb-true, leb-false, ltb-true}
use Rattle.lists.specs.Lists.{pick, padded}
use Rattle.weight.specs.declared.Weight.{Weight}
use Rattle.threshold.specs.declared.Threshold.{Threshold}
use Rattle.format.specs.Parse.{Parse, got, bad, bind, byte_at, be_from, num_at, many_at}
use Rattle.format.specs.Fields.{simple, weighted, sizes_at, total, weight_at, clauses_at, threshold_as, threshold_at}
use Rattle.cursor.specs.Spans.{mapped, list_of, many_of}
use Rattle.cursor.specs.Cursor.{raw_of}
use Rattle.cursor.proofs.Laws.{be_8, raw_got, num_got, num_short, list-none, list_length, many_over, many_short, many_got, as_is}
use Rattle.threshold_field.specs.declared.Marks.{Marks}
use Rattle.threshold_field.specs.ThresholdField.{total_at, pass_at, weighted_marks, weighted_at, marks_as, marks_at, byte_of, weight_of, sizes_of, weights_of, threshold_of}

-- ---- sizes as a loop adds them: i of n are read and come to t, and the next stands at p
module _ (s : List ℕ) (n i t p : ℕ) where
  left : i < n → n - i ≡ suc (n - (i + 1))
  left h = omega arith

  pub total_more : {z q : ℕ} → got z q ≡ byte_at s p → i < n → t + z ≤ 16 → total_at s (n - i) t p ≡ total_at s (n - (i + 1)) (t + z) q
  unfolding total_at
  total_more {z} {q} b h k = rw (left h, ← b, le-leb (t + z) 16 k)

  pub total_many : {z q : ℕ} → got z q ≡ byte_at s p → i < n → 16 < t + z → total_at s (n - i) t p ≡ bad 4
  unfolding total_at
  total_many {z} {q} b h k = rw (left h, ← b, lt-leb (t + z) 16 k)

  pub total_stop : {r : ℕ} → bad r ≡ byte_at s p → i < n → total_at s (n - i) t p ≡ bad r
  unfolding total_at
  total_stop b h = rw (left h, ← b)

  pub total_end : n ≤ i → total_at s (n - i) t p ≡ got t p
  unfolding total_at
  total_end h = let m : n - i ≡ 0 = omega arith in rw m

module _ {A : Type 0} (a : A) (k : ℕ) (s : List ℕ) (at : ℕ) where
  pass_got : at + k ≤ length s → pass_at a k s at ≡ got a (at + k)
  unfolding pass_at
  pass_got h = simp (le-leb _ _ h)

  pass_short : length s < at + k → pass_at a k s at ≡ bad 3
  unfolding pass_at
  pass_short h = simp (lt-leb _ _ h)

-- ---- arrays of 16
module _ {A : Type 0} (f : ℕ → A) (w : ℕ) (z : A) (s : List ℕ) (n p : ℕ) where
  pub fill_none : replicate 16 z ≡ padded 16 z (list_of f w 0 p)
  fill_none = rw (list-none f w p)

  pub fill_over : 16 < n → replicate 16 z ≡ padded 16 z (many_of f w 16 s n p)
  fill_over h = rw (many_over f w 16 s n p h)

  pub fill_short : n ≤ 16 → length s < p + n * w → replicate 16 z ≡ padded 16 z (many_of f w 16 s n p)
  fill_short h k = rw (many_short f w 16 s n p h k)

  pub fill_all : (i : ℕ) (l : List A) → n ≤ 16 → p + n * w ≤ length s → i ≡ n → l ≡ padded 16 z (list_of f w i p)
      → l ≡ padded 16 z (many_of f w 16 s n p)
  fill_all i l h k e r = rw (many_got f w 16 s n p h k, ← e) r

-- bytes one by one are a run of bytes
bytes_run : (s : List ℕ) (n p : ℕ) → p + n ≤ length s → list_of (byte_of s) 1 n p ≡ take n (drop p s)
unfolding list_of
bytes_run s zero p h = refl
bytes_run s (suc n) p h =
    let k : p < length s = omega arith in
    rw (drop-cons s p 0 k, bytes_run s n (p + 1) (omega arith), add-one p)

pub fill_bytes : (s : List ℕ) (n p : ℕ) (x : List ℕ) → n ≤ 16 → p + n ≤ length s → x ≡ take n (drop p s) → x ++ drop n (replicate 16 0) ≡ sizes_of s n p
fill_bytes s n p x h k e =
    let r : p + n * 1 ≤ length s = omega arith in
    rw (many_got (byte_of s) 1 16 s n p h r, list_length (byte_of s) 1 n p, bytes_run s n p k, drop-replicate {X = ℕ} n 16 0, e)

-- ---- a weight at a place
pub weight_is : (s : List ℕ) (at : ℕ) (a b : List ℕ) → at + 16 ≤ length s → a ≡ raw_of 8 s at → b ≡ raw_of 8 s (at + 8) → length a ≡ 8 → length b ≡ 8
    → ◌≡◌ {A = Weight} (record { num = from_be_bytes w64 a; den = from_be_bytes w64 b }) (weight_of s at)
unfolding weight_of
weight_is s at a b h e f m n =
    let j : at + 8 ≤ length s = omega arith in
    let k : at + 8 + 8 ≤ length s = omega arith in
    rw (be_8 a m, be_8 b n, e, f, raw_got 8 s at j, raw_got 8 s (at + 8) k)

-- ---- by values: weights
module _ (s : List ℕ) where
  weight_had : (p : ℕ) → p + 16 ≤ length s → weight_at s p ≡ got (weight_of s p) (p + 16)
  unfolding weight_at weight_of
  weight_had p h =
      let a : p + 8 ≤ length s = omega arith in
      let b : p + 8 + 8 ≤ length s = omega arith in
      let e : p + 8 + 8 ≡ p + 16 = omega arith in
      rw (num_got 8 s p a, num_got 8 s (p + 8) b, e)

  weight_short : (p : ℕ) → length s < p + 16 → weight_at s p ≡ bad 3
  unfolding weight_at
  weight_short p h = by_room (leb (p + 8) (length s)) refl
    where
      by_room : (b : Bool) → leb (p + 8) (length s) ≡ b → weight_at s p ≡ bad 3
      by_room true e =
          let a : p + 8 ≤ length s = leb-true (p + 8) (length s) e in
          let b : length s < p + 8 + 8 = omega arith in
          rw (num_got 8 s p a, num_short 8 s (p + 8) b)
      by_room false e = rw (num_short 8 s p (leb-false (p + 8) (length s) e))

  weights_had : (n p : ℕ) → p + n * 16 ≤ length s → many_at (weight_at s) n p ≡ got (list_of (weight_of s) 16 n p) (p + n * 16)
  unfolding many_at list_of
  weights_had zero p h = let e : p + 0 * 16 ≡ p = omega arith in rw e
  weights_had (suc n) p h =
      let a : p + 16 ≤ length s = omega arith in
      let b : p + 16 + n * 16 ≤ length s = omega arith in
      let e : p + 16 + n * 16 ≡ p + suc n * 16 = omega arith in
      rw (weight_had p a, weights_had n (p + 16) b, e)

  weights_short : (n p : ℕ) → p ≤ length s → length s < p + n * 16 → many_at (weight_at s) n p ≡ bad 3
  unfolding many_at
  weights_short zero p h k = absurd (omega arith)
  weights_short (suc n) p h k = by_room (leb (p + 16) (length s)) refl (weights_short n (p + 16))
    where
      by_room : (b : Bool) → leb (p + 16) (length s) ≡ b → (p + 16 ≤ length s → length s < p + 16 + n * 16 → many_at (weight_at s) n (p + 16) ≡ bad 3)
          → many_at (weight_at s) (suc n) p ≡ bad 3
      by_room true e rest =
          let a : p + 16 ≤ length s = leb-true (p + 16) (length s) e in
          let b : length s < p + 16 + n * 16 = omega arith in
          rw (weight_had p a, rest a b)
      by_room false e rest = rw (weight_short p (leb-false (p + 16) (length s) e))

  -- sizes: by their total and by their values, both had or both refused
  data Sized (n sum p : ℕ) : Type 0 where
    sized : (t : ℕ) → p + n ≤ length s → t ≤ 16 → t ≡ sum + total (list_of (byte_of s) 1 n p) → total_at s n sum p ≡ got t (p + n)
        → sizes_at s n sum p ≡ got (list_of (byte_of s) 1 n p) (p + n) → Sized n sum p
    stopped : (r : ℕ) → total_at s n sum p ≡ bad r → sizes_at s n sum p ≡ bad r → Sized n sum p

  sizes_values : (n sum p : ℕ) → p ≤ length s → sum ≤ 16 → Sized n sum p
  unfolding total_at sizes_at byte_at list_of total
  sizes_values zero sum p h k = let e : p + 0 ≡ p = omega arith in sized sum (omega arith) k (omega arith) (rw e) (rw e)
  sizes_values (suc n) sum p h k = by_room (ltb p (length s)) refl (sizes_values n (sum + get_or s p 0) (p + 1))
    where
      more : ltb p (length s) ≡ true → leb (sum + get_or s p 0) 16 ≡ true → Sized n (sum + get_or s p 0) (p + 1) → Sized (suc n) sum p
      more e f (sized t a i j u v) =
          let d : p + 1 + n ≡ p + suc n = omega arith in
          sized t (omega arith) i (omega arith) (rw (e, f, u, d)) (rw (e, f, v, d))
      more e f (stopped r u v) = stopped r (rw (e, f, u)) (rw (e, f, v))

      by_sum : ltb p (length s) ≡ true → (b : Bool) → leb (sum + get_or s p 0) 16 ≡ b → (sum + get_or s p 0 ≤ 16 → Sized n (sum + get_or s p 0) (p + 1)) → Sized (suc n) sum p
      by_sum e true f rest = more e f (rest (leb-true (sum + get_or s p 0) 16 f))
      by_sum e false f rest = stopped 4 (rw (e, f)) (rw (e, f))

      by_room : (b : Bool) → ltb p (length s) ≡ b → (p + 1 ≤ length s → sum + get_or s p 0 ≤ 16 → Sized n (sum + get_or s p 0) (p + 1)) → Sized (suc n) sum p
      by_room true e rest =
          let l : p + 1 ≤ length s = omega (arith, ltb-true p (length s) e) in
          by_sum e (leb (sum + get_or s p 0) 16) refl (rest l)
      by_room false e rest = stopped 3 (rw e) (rw e)

  -- the weighted threshold whose parts stand at marks that were had
  weighted_is : (n p t w : ℕ) → n ≤ 16 → p + n * 1 ≤ length s → t ≤ 16 → w + t * 16 ≤ length s
      → threshold_of s (weighted_marks n p t w) ≡ weighted (list_of (byte_of s) 1 n p) (list_of (weight_of s) 16 t w)
  weighted_is n p t w a b c d = rw (many_got (byte_of s) 1 16 s n p a b, many_got (weight_of s) 16 16 s t w c d, list_length (byte_of s) 1 n p)

  abbrev clauses : ℕ → ℕ → Parse Threshold
  clauses n p = bind (sizes_at s n 0 p) (λ sizes q. bind (many_at (weight_at s) (total sizes) q) (λ weights r. got (weighted sizes weights) r))

  abbrev span : ℕ → ℕ → Parse Marks
  span n p = bind (total_at s n 0 p) (λ t w. pass_at (weighted_marks n p t w) (t * 16) s w)

  clauses_values : (n p : ℕ) → n ≤ 16 → p ≤ length s → mapped (threshold_of s) (span n p) ≡ clauses n p
  clauses_values n p h k = go (sizes_values n 0 p k (omega arith))
    where
      go : Sized n 0 p → mapped (threshold_of s) (span n p) ≡ clauses n p
      go (stopped r u v) = rw (u, v)
      go (sized t a i j u v) = by_room (leb (p + n + t * 16) (length s)) refl
        where
          by_room : (b : Bool) → leb (p + n + t * 16) (length s) ≡ b → mapped (threshold_of s) (span n p) ≡ clauses n p
          by_room true e =
              let l : p + n + t * 16 ≤ length s = leb-true (p + n + t * 16) (length s) e in
              let m : total (list_of (byte_of s) 1 n p) ≡ t = omega arith in
              let w : p + n * 1 ≤ length s = omega arith in
              rw (u, v, m, pass_got (weighted_marks n p t (p + n)) (t * 16) s (p + n) l, weights_had t (p + n) l)
              (ap (λ (x : Threshold). got x (p + n + t * 16)) (weighted_is n p t (p + n) h w i l))
          by_room false e =
              let l : length s < p + n + t * 16 = leb-false (p + n + t * 16) (length s) e in
              let m : total (list_of (byte_of s) 1 n p) ≡ t = omega arith in
              rw (u, v, m, pass_short (weighted_marks n p t (p + n)) (t * 16) s (p + n) l, weights_short t (p + n) a l)

  weighted_values : (at : ℕ) → mapped (threshold_of s) (weighted_at s at) ≡ threshold_as 1 s at
  unfolding weighted_at threshold_as clauses_at byte_at
  weighted_values at = by_room (ltb at (length s)) refl
    where
      counted : (b : Bool) → leb (get_or s at 0) 16 ≡ b → at + 1 ≤ length s
          → mapped (threshold_of s) (pick b (span (get_or s at 0) (at + 1)) (bad 4))
          ≡ bind (pick b (sizes_at s (get_or s at 0) 0 (at + 1)) (bad 4)) (λ sizes q. bind (many_at (weight_at s) (total sizes) q) (λ weights r. got (weighted sizes weights) r))
      counted true e l = clauses_values (get_or s at 0) (at + 1) (leb-true (get_or s at 0) 16 e) l
      counted false e l = refl

      by_room : (b : Bool) → ltb at (length s) ≡ b → mapped (threshold_of s) (weighted_at s at) ≡ threshold_as 1 s at
      by_room true e =
          let l : at + 1 ≤ length s = omega (arith, ltb-true at (length s) e) in
          rw e (counted (leb (get_or s at 0) 16) refl l)
      by_room false e = rw e

  many_zero : {A : Type 0} (f : ℕ → A) (w : ℕ) → many_of f w 16 s 0 0 ≡ []
  many_zero f w = many_got f w 16 s 0 0 (omega arith) (omega arith) ∙ list-none f w 0

  as_values : (tag at : ℕ) → mapped (threshold_of s) (marks_as tag s at) ≡ threshold_as tag s at
  unfolding marks_as threshold_as
  as_values zero at = as_is (threshold_of s) (num_at 8 s at) _ _ λ n q. rw (many_zero (byte_of s) 1, many_zero (weight_of s) 16)
  as_values (suc zero) at = weighted_values at
  as_values (suc (suc n)) at = refl

  -- the threshold at the marks that a scan gave is that of the record
  pub threshold_values : (at : ℕ) → mapped (threshold_of s) (marks_at s at) ≡ threshold_at s at
  unfolding marks_at threshold_at
  threshold_values at = as_is (threshold_of s) (byte_at s at) _ _ λ tag q. as_values tag q
