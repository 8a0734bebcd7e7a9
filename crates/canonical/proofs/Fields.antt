-- The bytes of a field that was scanned are the bytes of what stands there. Assumes nothing.
--     Ran, ran-..       what a reading got has a property: one law for each way to make a reading
--     run-..            runs of bytes, one behind another
--     ..-ran            one law a field
use mathlib.Core.Path.{◌≡◌, refl, sym, ap, ◌∙◌}
use mathlib.Core.Bool.{Bool, true, false}
use mathlib.Core.List.{List, ◌∷◌, ◌++◌, append_assoc, []}
use Prim.Native.Nat.{ℕ, zero, suc, ◌+◌, ◌*◌, ◌-◌, ◌/◌, ◌%◌, ◌≤◌, ◌<◌}
use native.Mathlib.Nat.{suc-mul}
use native.Mathlib.Numerals.{add-one}
use native.Mathlib.Omega.{arith}
use lib.Dec.{leb, ltb, eqb}
use lib.ListN.{length, take, drop, get_or, length-append, length-take, length-drop, take-append-drop}
use lib.Seq.{take-suc, take_at, drop-drop, get_or-drop}
use borrow.Author.Tests.{leb-true, ltb-true}
use Rattle.lists.specs.Lists.{pick, padded}
use Rattle.lists.proofs.Walks.{head_of}
use Rattle.lists.proofs.Padding.{padded-used}
use Rattle.number.specs.declared.Number.{Number}
use Rattle.item.specs.declared.Kind.{Kind}
use Rattle.item.specs.Item.{fits_of, zero_item}
use Rattle.config.specs.Config.{is_trait}
use Rattle.threshold.specs.Threshold as threshold
use Rattle.format.specs.Parse.{Parse, got, bad, bind, byte_at, be_from, num_at}
use Rattle.format.specs.Fields.{sn_at, flag_at}
use Rattle.cursor.specs.declared.Listing.{Listing}
use Rattle.cursor.specs.Spans.{runs, span_at, list_of, many_of}
use Rattle.cursor.proofs.Laws.{be_more, raw_got, list_length, many_got}
use Rattle.field.specs.Field.{place_at, trait_place_at, items_place_at, config_place_at, byte_of, item_of, items_of, config_of}
use Rattle.threshold_field.specs.declared.Marks.{Marks}
use Rattle.threshold_field.specs.ThresholdField.{total_at, pass_at, simple_marks, weighted_marks, weighted_at, marks_as, marks_at, weight_of, no_weight, threshold_of}
use Rattle.writer.specs.Writing.{be}
use Rattle.snapshot.specs.Bytes.{words_bytes, item_bytes, each, items_bytes, counted, config_bytes, weight_bytes, threshold_bytes, flag_byte}
use Rattle.snapshot.proofs.Laws.{simple-bytes, weighted-bytes}
use Rattle.snapshot.proofs.Back.{each-byte}
use Rattle.canonical.specs.Bytes.{Bytes}
use Rattle.canonical.specs.Canonical.{Run}

-- ---- readings
abbrev pub Ran : {A : Type 0} → (A → ℕ → Type 0) → Parse A → Type 0
Ran P (got a n) = P a n
Ran P (bad r) = Unit

pub ran_bind : {A B : Type 0} (P : A → ℕ → Type 0) (Q : B → ℕ → Type 0) (x : Parse A) (k : A → ℕ → Parse B) → Ran P x
    → ((a : A) (n : ℕ) → P a n → Ran Q (k a n)) → Ran Q (bind x k)
ran_bind P Q (got a n) k p q = q a n p
ran_bind P Q (bad r) k p q = tt

pub ran_pick : {A : Type 0} (P : A → ℕ → Type 0) (b : Bool) (x : Parse A) (r : ℕ) → (b ≡ true → Ran P x) → Ran P (pick b x (bad r))
ran_pick P true x r p = p refl
ran_pick P false x r p = tt

ran_weaker : {A : Type 0} (P Q : A → ℕ → Type 0) (x : Parse A) → ((a : A) (n : ℕ) → P a n → Q a n) → Ran P x → Ran Q x
ran_weaker P Q (got a n) g p = g a n p
ran_weaker P Q (bad r) g p = tt

pub ran_got : {A : Type 0} (P : A → ℕ → Type 0) (x : Parse A) (a : A) (n : ℕ) → x ≡ got a n → Ran P x → P a n
ran_got P x a n e p = rw e at p

-- ---- runs
module _ (s : List ℕ) where
  pub run_then : (a b c : ℕ) (xs ys : List ℕ) → Run s a b xs → Run s b c ys → Run s a c (xs ++ ys)
  run_then a b c xs ys p q =
      let h = p.ends in
      let g = q.ends in
      record {
        ends = rw (length-append xs ys) (omega arith);
        within = q.within;
        is = p.is ∙ ap (λ (zs : List ℕ). xs ++ zs) q.is ∙ sym (append_assoc xs ys (drop c s));
      }

  run-same : (a b : ℕ) (xs ys : List ℕ) → ys ≡ xs → Run s a b xs → Run s a b ys
  run-same a b xs ys e p = rw e p

  run_to : (a b c : ℕ) (xs : List ℕ) → c ≡ b → Run s a b xs → Run s a c xs
  run_to a b c xs e p = rw e p

  pub run-taken : (a b : ℕ) (xs : List ℕ) → Run s a b xs → take (b - a) (drop a s) ≡ xs
  run-taken a b xs p =
      let h = p.ends in
      let n : length xs ≡ b - a = omega arith in
      rw p.is (take_at xs (drop b s) (b - a) n)

  run-part : (at w : ℕ) → at + w ≤ length s → Run s at (at + w) (take w (drop at s))
  run-part at w h =
      let n : length (take w (drop at s)) ≡ w = simp (length-take, length-drop) (omega arith) in
      record {
        ends = rw n;
        within = h;
        is = rw (← drop-drop w at s) (sym (take-append-drop w (drop at s)));
      }

  run_none : (at : ℕ) → at ≤ length s → Run s at at []
  run_none at h = record { ends = omega arith; within = h; is = refl }

  run-byte : (at : ℕ) → at + 1 ≤ length s → Run s at (at + 1) (get_or s at 0 ∷ [])
  run-byte at h = record { ends = refl; within = h; is = head_of 0 s at (omega arith) }

  run_item : (at : ℕ) → at + 33 ≤ length s → Run s at (at + 33) (item_bytes (item_of s at))
  unfolding item_bytes item_of
  run_item at h =
      let m : at + 1 + 32 ≤ length s = omega arith in
      let e : at + 33 ≡ at + 1 + 32 = omega arith in
      rw (raw_got 32 s (at + 1) m, e)
      (run_then at (at + 1) (at + 1 + 32) (get_or s at 0 ∷ []) (take 32 (drop (at + 1) s)) (run-byte at (omega arith)) (run-part (at + 1) 32 m))

  -- values w bytes apart
  module _ {A : Type 0} (g : A → List ℕ) (v : ℕ → A) (w : ℕ) (h : (p : ℕ) → p + w ≤ length s → Run s p (p + w) (g (v p))) where
    run-each : (n p : ℕ) → p + n * w ≤ length s → Run s p (p + n * w) (each g (list_of v w n p))
    unfolding each list_of
    run-each zero p l = let e : p + 0 * w ≡ p = omega arith in rw e (run_none p (omega arith))
    run-each (suc n) p l =
        let m : p + w + n * w ≤ length s = omega (arith, rw suc-mul at l) in
        let e : p + suc n * w ≡ p + w + n * w = rw suc-mul (omega arith) in
        rw e (run_then p (p + w) (p + w + n * w) (g (v p)) _ (h p (omega arith)) (run-each n (p + w) m))

run-bytes : (s : List ℕ) (n p : ℕ) → p + n * 1 ≤ length s → Run s p (p + n * 1) (list_of (byte_of s) 1 n p)
run-bytes s n p h = rw each-byte at (run-each s (λ x. x ∷ []) (byte_of s) 1 (run-byte s) n p h)

-- ---- numbers: "big-endian"
byte-below : (s : List ℕ) → Bytes s → (i : ℕ) → get_or s i 0 < 256
byte-below [] b i = omega arith
byte-below (x ∷ s) b zero = b.0
byte-below (x ∷ s) b (suc i) = byte-below s b.1 i

module _ (s : List ℕ) (bytes : Bytes s) where
  be_back : (at w : ℕ) → at + w ≤ length s → be w (be_from 0 (take w (drop at s))) ≡ take w (drop at s)
  unfolding be
  be_back at zero h = refl
  be_back at (suc w) h =
      let v = be_from 0 (take w (drop at s)) in
      let x = get_or s (at + w) 0 in
      let small : x < 256 = byte-below s bytes (at + w) in
      let l : w < length (drop at s) = simp length-drop (omega arith) in
      let e : be_from 0 (take (suc w) (drop at s)) ≡ v * 256 + x = rw add-one at (be_more s at w (omega arith)) in
      let q : (v * 256 + x) / 256 ≡ v = omega arith in
      let r : (v * 256 + x) % 256 ≡ x = omega arith in
      let t : take (suc w) (drop at s) ≡ take w (drop at s) ++ (x ∷ []) = rw (← get_or-drop at s w 0) (take-suc (drop at s) w 0 l) in
      rw (e, q, r, be_back at w (omega arith), t)

  run-number : (at w : ℕ) → at + w ≤ length s → Run s at (at + w) (be w (be_from 0 (take w (drop at s))))
  run-number at w h = rw (be_back at w h) (run-part s at w h)

  run_weight : (at : ℕ) → at + 16 ≤ length s → Run s at (at + 16) (weight_bytes (weight_of s at))
  unfolding words_bytes weight_of
  run_weight at h =
      let e : at + 16 ≡ at + 8 + 8 = omega arith in
      rw e (run_then s at (at + 8) (at + 8 + 8) _ _ (run-number at 8 (omega arith)) (run-number (at + 8) 8 (omega arith)))

-- ---- single fields: where they end, and their bytes
abbrev pub Byte : List ℕ → ℕ → ℕ → ℕ → Type 0
Byte s at b n = (b ≡ get_or s at 0) × ((n ≡ at + 1) × (at + 1 ≤ length s))

pub byte_ran : (s : List ℕ) (at : ℕ) → Ran (Byte s at) (byte_at s at)
unfolding byte_at
byte_ran s at = ran_pick (Byte s at) (ltb at (length s)) (got (get_or s at 0) (at + 1)) 3 (λ e. (refl, (refl, omega (arith, ltb-true at (length s) e))))

pub byte-run : (s : List ℕ) (at b n : ℕ) → Byte s at b n → Run s at n (b ∷ [])
byte-run s at b n h = rw (h.0, h.1.0) (run-byte s at h.1.1)

-- w bytes by their place
abbrev Lies : List ℕ → ℕ → ℕ → ℕ → ℕ → Type 0
Lies s w at p n = (p ≡ at) × ((n ≡ at + w) × (at + w ≤ length s))

place_lies : (k : Kind) (s : List ℕ) (at : ℕ) → Ran (Lies s 33 at) (place_at k s at)
unfolding place_at
place_lies k s at =
    ran_pick (Lies s 33 at) (leb (at + 33) (length s)) _ 3
    (λ e. ran_pick (Lies s 33 at) (fits_of k (get_or s at 0)) (got at (at + 33)) 3 (λ f. (refl, (refl, leb-true (at + 33) (length s) e))))

trait_lies : (s : List ℕ) (at : ℕ) → Ran (Lies s 1 at) (trait_place_at s at)
unfolding trait_place_at
trait_lies s at = ran_bind (Byte s at) (Lies s 1 at) (byte_at s at) _ (byte_ran s at) (λ t n h. ran_pick (Lies s 1 at) (is_trait t) (got at n) 3 (λ e. (refl, h.1)))

abbrev pub Place : List ℕ → ℕ → ℕ → ℕ → Type 0
Place s at p n = (p ≡ at) × ((n ≡ at + 33) × Run s at n (item_bytes (item_of s p)))

pub place_ran : (k : Kind) (s : List ℕ) (at : ℕ) → Ran (Place s at) (place_at k s at)
place_ran k s at =
    ran_weaker (Lies s 33 at) (Place s at) (place_at k s at)
    (λ p n h. (h.0, (h.1.0, rw (h.0, h.1.0) (run_item s at h.1.1)))) (place_lies k s at)

flag_is_lem : (b : ℕ) → b ≤ 1 → flag_byte (eqb b 1) ≡ b
flag_is_lem zero h = refl
flag_is_lem (suc zero) h = refl
flag_is_lem (suc (suc b)) h = absurd (omega arith)

abbrev pub Flag : List ℕ → ℕ → Bool → ℕ → Type 0
Flag s at b n = (n ≡ at + 1) × Run s at n (flag_byte b ∷ [])

pub flag_ran : (s : List ℕ) (at : ℕ) → Ran (Flag s at) (flag_at s at)
unfolding flag_at
flag_ran s at =
    ran_bind (Byte s at) (Flag s at) (byte_at s at) _ (byte_ran s at)
    (λ b n h. ran_pick (Flag s at) (leb b 1) (got (eqb b 1) n) 3 (λ e. (h.1.0, rw (flag_is_lem b (leb-true b 1 e)) (byte-run s at b n h))))

module _ (s : List ℕ) (bytes : Bytes s) where
  abbrev pub Numbered : ℕ → ℕ → ℕ → ℕ → Type 0
  Numbered w at v n = (n ≡ at + w) × Run s at n (be w v)

  pub number_ran : (w at : ℕ) → Ran (Numbered w at) (num_at w s at)
  unfolding num_at
  number_ran w at =
      ran_pick (Numbered w at) (leb (at + w) (length s)) (got (be_from 0 (take w (drop at s))) (at + w)) 3
      (λ e. (refl, run-number s bytes at w (leb-true (at + w) (length s) e)))

  abbrev pub Sequence : ℕ → Number → ℕ → Type 0
  Sequence at sn n = (n ≡ at + 16) × Run s at n (words_bytes sn.high sn.low)

  pub sn_ran : (at : ℕ) → Ran (Sequence at) (sn_at s at)
  unfolding sn_at words_bytes
  sn_ran at =
      ran_bind (Numbered 8 at) (Sequence at) (num_at 8 s at) _ (number_ran 8 at)
      (λ high p h. ran_bind (Numbered 8 p) (Sequence at) (num_at 8 s p) _ (number_ran 8 p)
      (λ low q g. (let a = h.0 in let b = g.0 in omega arith, run_then s at p q (be 8 high) (be 8 low) h.1 g.1)))

-- ---- lists
-- a count, and where the values lie
record Spanned (s : List ℕ) (w max at : ℕ) (m : Listing) (n : ℕ) : Type 0 where
  count : Byte s at m.count m.first
  few : m.count ≤ max
  ends : n ≡ m.first + m.count * w
  within : m.first + m.count * w ≤ length s

module _ (s : List ℕ) (f : ℕ → Parse ℕ) (w : ℕ) (h : (p : ℕ) → Ran (Lies s w p) (f p)) where
  abbrev Reach : ℕ → ℕ → Unit {0} → ℕ → Type 0
  Reach n p u q = (q ≡ p + n * w) × (p + n * w ≤ length s)

  runs_ran : (n p : ℕ) → p ≤ length s → Ran (Reach n p) (runs f n p)
  unfolding runs
  runs_ran zero p l = (omega arith, omega arith)
  runs_ran (suc n) p l =
      ran_bind (Lies s w p) (Reach (suc n) p) (f p) _ (h p)
      (λ a q g.
      let e = g.1.0 in
      let r = g.1.1 in
      let j : q + n * w ≡ p + suc n * w = rw suc-mul (omega arith) in
      ran_weaker (Reach n q) (Reach (suc n) p) (runs f n q) (λ u t k. (k.0 ∙ j, rw j at k.1)) (runs_ran n q (omega arith)))

  span_ran : (max at : ℕ) → Ran (Spanned s w max at) (span_at f max s at)
  unfolding span_at
  span_ran max at =
      ran_bind (Byte s at) (Spanned s w max at) (byte_at s at) _ (byte_ran s at)
      (λ n p b. ran_pick (Spanned s w max at) (leb n max) _ 4
      (λ e. let d = b.1 in let i = d.0 in let j = d.1 in
      ran_bind (Reach n p) (Spanned s w max at) (runs f n p) _ (runs_ran n p (omega arith))
      (λ u q r. record { count = b; few = leb-true n max e; ends = r.0; within = r.1 })))

abbrev pub Listed : List ℕ → ℕ → Listing → ℕ → Type 0
Listed s at m n = (m.first ≡ at + 1) × Run s at n (items_bytes (items_of s m.count m.first))

items_run : (s : List ℕ) (at : ℕ) (m : Listing) (n : ℕ) → Spanned s 33 16 at m n → Listed s at m n
unfolding items_bytes items_of
items_run s at m n g =
    let xs = list_of (item_of s) 33 m.count m.first in
    let l : length xs ≡ m.count = list_length (item_of s) 33 m.count m.first in
    let u : take (length xs) (padded 16 zero_item xs) ≡ xs = padded-used zero_item 16 xs in (
      g.count.1.0,
      rw (many_got (item_of s) 33 16 s m.count m.first g.few g.within, u, l, g.ends)
          (run_then s at m.first (m.first + m.count * 33) (m.count ∷ []) (each item_bytes xs) (byte-run s at m.count m.first g.count) (run-each s item_bytes (item_of s) 33 (run_item s) m.count m.first g.within)),
    )

pub items_ran : (k : Kind) (s : List ℕ) (at : ℕ) → Ran (Listed s at) (items_place_at k s at)
items_ran k s at = ran_weaker (Spanned s 33 16 at) (Listed s at) (items_place_at k s at) (items_run s at) (span_ran s (place_at k s) 33 (place_lies k s) 16 at)

abbrev pub Traits : List ℕ → ℕ → Listing → ℕ → Type 0
Traits s at m n = Run s at n (config_bytes (config_of s m.count m.first))

config_run : (s : List ℕ) (at : ℕ) (m : Listing) (n : ℕ) → Spanned s 1 8 at m n → Traits s at m n
unfolding config_bytes counted config_of
config_run s at m n g =
    let xs = list_of (byte_of s) 1 m.count m.first in
    let l : length xs ≡ m.count = list_length (byte_of s) 1 m.count m.first in
    let u : take (length xs) (padded 8 0 xs) ≡ xs = padded-used 0 8 xs in
    rw (many_got (byte_of s) 1 8 s m.count m.first g.few g.within, u, l, g.ends)
    (run_then s at m.first (m.first + m.count * 1) (m.count ∷ []) xs (byte-run s at m.count m.first g.count) (run-bytes s m.count m.first g.within))

pub config_ran : (s : List ℕ) (at : ℕ) → Ran (Traits s at) (config_place_at s at)
config_ran s at = ran_weaker (Spanned s 1 8 at) (Traits s at) (config_place_at s at) (config_run s at) (span_ran s (trait_place_at s) 1 (trait_lies s) 8 at)

-- ---- thresholds
-- the used part of an array that was filled from its place
used : {A : Type 0} (f : ℕ → A) (w : ℕ) (z : A) (s : List ℕ) (n p : ℕ) → n ≤ 16 → p + n * w ≤ length s
    → take n (padded 16 z (many_of f w 16 s n p)) ≡ list_of f w n p
used f w z s n p h k =
    let xs = list_of f w n p in
    rw (many_got f w 16 s n p h k) (take_at xs _ n (list_length f w n p))

-- n size bytes behind sizes that come to `so`
record Sizes (s : List ℕ) (n so p : ℕ) (t : ℕ) (q : ℕ) : Type 0 where
  total : t ≡ so + threshold.sum (list_of (byte_of s) 1 n p)
  light : t ≤ 16
  ends : q ≡ p + n * 1
  within : p + n * 1 ≤ length s

sizes_ran : (s : List ℕ) (n so p : ℕ) → p ≤ length s → so ≤ 16 → Ran (Sizes s n so p) (total_at s n so p)
unfolding total_at list_of threshold.sum
sizes_ran s zero so p h k = record { total = omega arith; light = k; ends = omega arith; within = omega arith }
sizes_ran s (suc n) so p h k =
    ran_bind (Byte s p) (Sizes s (suc n) so p) (byte_at s p) _ (byte_ran s p)
    (λ z q b. ran_pick (Sizes s (suc n) so p) (leb (so + z) 16) _ 4
    (λ e. let l = leb-true (so + z) 16 e in
    let d = b.0 in
    let i = b.1.0 in
    let j = b.1.1 in
    ran_weaker (Sizes s n (so + z) q) (Sizes s (suc n) so p) (total_at s n (so + z) q)
    (λ t r g.
    let a = rw i at g.total in
    let c = g.ends in
    let m = g.within in
    record { total = omega arith; light = g.light; ends = omega arith; within = omega arith })
    (sizes_ran s n (so + z) q (omega arith) l)))

module _ (s : List ℕ) (bytes : Bytes s) where
  -- the bytes of the weighted threshold whose parts stand at the marks
  weighted_are : (n p t w : ℕ) → n ≤ 16 → Sizes s n 0 p t w → w + t * 16 ≤ length s
      → threshold_bytes (threshold_of s (weighted_marks n p t w))
      ≡ (1 ∷ []) ++ ((n ∷ list_of (byte_of s) 1 n p) ++ each weight_bytes (list_of (weight_of s) 16 t w))
  unfolding counted
  weighted_are n p t w h g k =
      let x = threshold_of s (weighted_marks n p t w) in
      let zs : threshold.sizes_of x ≡ list_of (byte_of s) 1 n p = used (byte_of s) 1 0 s n p h g.within in
      let ws : take t x.weights ≡ list_of (weight_of s) 16 t w = used (weight_of s) 16 no_weight s t w g.light k in
      let l : t ≡ threshold.sum (list_of (byte_of s) 1 n p) = omega (arith, g.total) in
      let m : t ≡ threshold.weights_in x = rw zs l in
      weighted-bytes x t (λ e. omega (arith, e)) m ∙ rw (zs, ws, list_length (byte_of s) 1 n p)

  abbrev pub Marked : ℕ → Marks → ℕ → Type 0
  Marked at m n = Run s at n (threshold_bytes (threshold_of s m))

  weighted_ran : (at p : ℕ) → Run s at p (1 ∷ []) → Ran (Marked at) (weighted_at s p)
  unfolding weighted_at pass_at
  weighted_ran at p one =
      ran_bind (Byte s p) (Marked at) (byte_at s p) _ (byte_ran s p)
      (λ n q b. ran_pick (Marked at) (leb n 16) _ 4
      (λ e. let i = b.1.0 in let j = b.1.1 in
      ran_bind (Sizes s n 0 q) (Marked at) (total_at s n 0 q) _ (sizes_ran s n 0 q (omega arith) (omega arith))
      (λ t w g. ran_pick (Marked at) (leb (w + t * 16) (length s)) (got (weighted_marks n q t w) (w + t * 16)) 3
      (λ r. let k = leb-true (w + t * 16) (length s) r in
      let zs = list_of (byte_of s) 1 n q in
      let ws = each weight_bytes (list_of (weight_of s) 16 t w) in
      let sizes : Run s q w zs = run_to s q (q + n * 1) w zs g.ends (run-bytes s n q g.within) in
      let weights : Run s w (w + t * 16) ws = run-each s weight_bytes (weight_of s) 16 (run_weight s bytes) t w k in
      let clauses : Run s p w (n ∷ zs) = run_then s p q w (n ∷ []) zs (byte-run s p n q b) sizes in
      run-same s at (w + t * 16) _ _ (weighted_are n q t w (leb-true n 16 e) g k)
      (run_then s at p (w + t * 16) (1 ∷ []) _ one (run_then s p w (w + t * 16) (n ∷ zs) ws clauses weights))))))

  as_ran : (tag at p : ℕ) → Run s at p (tag ∷ []) → Ran (Marked at) (marks_as tag s p)
  unfolding marks_as
  as_ran zero at p one =
      ran_bind (Numbered s bytes 8 p) (Marked at) (num_at 8 s p) _ (number_ran s bytes 8 p)
      (λ n q g. run-same s at q _ _ (simple-bytes (threshold_of s (simple_marks n)) refl) (run_then s at p q (0 ∷ []) (be 8 n) one g.1))
  as_ran (suc zero) at p one = weighted_ran at p one
  as_ran (suc (suc n)) at p one = tt

  pub marks_ran : (at : ℕ) → Ran (Marked at) (marks_at s at)
  unfolding marks_at
  marks_ran at = ran_bind (Byte s at) (Marked at) (byte_at s at) _ (byte_ran s at) (λ tag p b. as_ran tag at p (byte-run s at tag p b))
