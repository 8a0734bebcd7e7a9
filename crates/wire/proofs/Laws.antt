-- Signatures in place: which have their shape, when two are copies, and the list by its places. Assumes nothing.
--     word_bytes            a word by the four bytes that it is made of
--     shaped_.., place_..   a signature's room, and its place or the refusal
--     run_.., same_..       one byte more of a comparison, its end, and two told apart by the first raw byte
--     firsts_.., list_..    the first ones with one signature more, and a step of the search for a copy among them
--     next_.., count_..     the sets of places with one signature more, and those of none and of all
--     scanning, counting    what the check finds the answers with
--     sigers_values   scanning a list and taking the signatures at its places is reading it
use mathlib.Core.Path.{◌≡◌, refl, sym, ap, ◌∙◌}
use mathlib.Core.Bool.{Bool, true, false, ◌&&◌}
use mathlib.Core.List.{List, ◌∷◌, ◌++◌, []}
use Prim.Native.Nat.{ℕ, ◌+◌, ◌*◌, ◌≤◌, ◌<◌}
use native.Mathlib.Nat.{le_refl, add-zero}
use native.Mathlib.Omega.{arith}
use lib.Dec.{leb, eqb, ltb}
use lib.ListN.{length, take, drop, get_or, length-take, length-drop}
use lib.Seq.{get_or-take, get_or-drop}
use borrow.Author.Tests.{le-leb, lt-leb, leb-true, leb-false}
use Rattle.std.specs.Int.{w32, from_be_bytes}
use Rattle.lists.specs.Lists.{pick, both, either, any, same_numbers}
use Rattle.lists.proofs.Facts.{both_true, both_off}
use Rattle.lists.proofs.Walks.{same_stop, same_more, same_over}
use Rattle.format.specs.Parse.{Parse, got, bad, bind, byte_at, be_from, num_at, raw_at}
use Rattle.format.specs.Fields.{flag_at, ondex_at, siger_at, sigers_at}
use Rattle.cursor.specs.declared.Listing.{Listing}
use Rattle.cursor.specs.Cursor.{raw_of}
use Rattle.cursor.specs.Spans.{mapped, list_of}
use Rattle.cursor.proofs.Laws.{be_more, be_4, span_short, span_many, span_bad, span_got, runs_stop, runs-end, Agree, had, refused, num_got, byte_got, byte-short, raw_got, list-none, list-next, many_over, many_short, many_got, span_values}
use Rattle.verification.specs.declared.Siger.{Siger}
use Rattle.verification.specs.declared.Counted.{Counted}
use Rattle.verification.specs.declared.Claim.{Claim}
use Rattle.verification.specs.Verification.{same_flag, same_wire, counted_with, exposed_with, counted_of, claimed, claim_of, packed_sigers}
use Rattle.verification.proofs.Laws.{counted_none, counted-copy, counted_more, wire_trans}
use Rattle.firsts.specs.Firsts.{has_first, with_first}
use Rattle.firsts.proofs.Laws.{none_yet_lem, first-kept, first_more, is_copy, no_copy}
use Rattle.wire.specs.Wire.{valued, word_of, siger_of, sigers_of, firsts_from, shaped_at, place_at, sigers_span}

-- ---- words
module _ (s : List ℕ) (at : ℕ) where
  four_bytes : at + 4 ≤ length s
      → be_from 0 (take 4 (drop at s)) ≡ be_from 0 (get_or s at 0 ∷ get_or s (at + 1) 0 ∷ get_or s (at + 2) 0 ∷ get_or s (at + 3) 0 ∷ [])
  unfolding be_from
  four_bytes h =
      let e0 : be_from 0 (take 1 (drop at s)) ≡ be_from 0 (take 0 (drop at s)) * 256 + get_or s (at + 0) 0 = be_more s at 0 (omega arith) in
      let e1 : be_from 0 (take 2 (drop at s)) ≡ be_from 0 (take 1 (drop at s)) * 256 + get_or s (at + 1) 0 = be_more s at 1 (omega arith) in
      let e2 : be_from 0 (take 3 (drop at s)) ≡ be_from 0 (take 2 (drop at s)) * 256 + get_or s (at + 2) 0 = be_more s at 2 (omega arith) in
      let e3 : be_from 0 (take 4 (drop at s)) ≡ be_from 0 (take 3 (drop at s)) * 256 + get_or s (at + 3) 0 = be_more s at 3 (omega arith) in
      let z : get_or s (at + 0) 0 ≡ get_or s at 0 = rw (add-zero at) refl in
      omega (arith, e0, e1, e2, e3, z)

  pub word_bytes : at + 4 ≤ length s
      → from_be_bytes w32 (get_or s at 0 ∷ get_or s (at + 1) 0 ∷ get_or s (at + 2) 0 ∷ get_or s (at + 3) 0 ∷ []) ≡ word_of s at
  word_bytes h = be_4 _ refl ∙ sym (four_bytes h) ∙ ap valued (sym (num_got 4 s at h))

-- ---- shape
module _ (s : List ℕ) (at : ℕ) where
  pub shaped_short : length s < at + 76 → shaped_at s at ≡ false
  unfolding shaped_at
  shaped_short h = rw (lt-leb _ _ h)

  pub shaped_room : shaped_at s at ≡ true → at + 76 ≤ length s
  unfolding shaped_at
  shaped_room e = leb-true (at + 76) (length s) (both_true (leb (at + 76) (length s)) _ e).0

  pub place_got : shaped_at s at ≡ true → place_at s at ≡ got at (at + 76)
  unfolding place_at
  place_got e = rw e

  pub place_bad : shaped_at s at ≡ false → place_at s at ≡ bad 3
  unfolding place_at
  place_bad e = rw e

-- what a scan asks for
pub ruleset scanning = (span_short, span_many, span_bad, span_got, runs_stop, runs-end, shaped_room, place_bad)

-- ---- comparison
-- n bytes at each of two places, as a loop compares them: what is left after k
abbrev pub left : ℕ → List ℕ → ℕ → ℕ → ℕ → Bool
left n s p q k = same_numbers (drop k (take n (drop p s))) (drop k (take n (drop q s)))

module _ (n : ℕ) (s : List ℕ) (p q i : ℕ) (hp : p + n ≤ length s) (hq : q + n ≤ length s) where
  run_length : (k : ℕ) → k + n ≤ length s → length (take n (drop k s)) ≡ n
  run_length k h = simp (length-take, length-drop) (omega arith)

  run_at : (k : ℕ) → i < n → get_or (take n (drop k s)) i 0 ≡ get_or s (k + i) 0
  run_at k h = rw (get_or-take n (drop k s) i 0 h, get_or-drop)

  run_stop : i < n → (get_or s (p + i) 0 ≡ get_or s (q + i) 0 → ⊥) → left n s p q i ≡ false
  run_stop h d =
      let a : i < length (take n (drop p s)) = omega (arith, run_length p hp) in
      let b : i < length (take n (drop q s)) = omega (arith, run_length q hq) in
      same_stop (take n (drop p s)) (take n (drop q s)) i a b (λ e. d (sym (run_at p h) ∙ e ∙ run_at q h))

  module _ (so : Bool) {x : Bool} (e : x ≡ both so (left n s p q i)) where
    pub run_more : i < n → x ≡ both (so && eqb (get_or s (p + i) 0) (get_or s (q + i) 0)) (left n s p q (i + 1))
    run_more h =
        let a : i < length (take n (drop p s)) = omega (arith, run_length p hp) in
        let b : i < length (take n (drop q s)) = omega (arith, run_length q hq) in
        e ∙ rw (← run_at p h, ← run_at q h) (same_more (take n (drop p s)) (take n (drop q s)) i a b so)

    pub run_over : n ≤ i → so ≡ x
    run_over h =
        let a : length (take n (drop p s)) ≤ i = omega (arith, run_length p hp) in
        let b : length (take n (drop q s)) ≤ i = omega (arith, run_length q hq) in
        sym (e ∙ same_over (take n (drop p s)) (take n (drop q s)) i so a b)

pub other_too : (a b : Bool) → b ≡ false → both a b ≡ false
other_too a b e = rw (e, both_off a)

module _ (s : List ℕ) (p q : ℕ) (hp : p + 76 ≤ length s) (hq : q + 76 ≤ length s) where
  abbrev wire : Bool
  wire = same_wire (siger_of s p) (siger_of s q)

  abbrev apart : Bool
  apart =
      both (eqb (get_or s p 0) (get_or s q 0))
      (both (eqb (word_of s (p + 1)) (word_of s (q + 1)))
      (both (same_flag (eqb (get_or s (p + 5) 0) 1) (eqb (get_or s (q + 5) 0) 1))
      (both (eqb (word_of s (p + 6)) (word_of s (q + 6))) (same_numbers (take 64 (drop (p + 10) s)) (take 64 (drop (q + 10) s))))))

  wire_is : wire ≡ apart
  unfolding same_wire siger_of
  wire_is = rw (raw_got 64 s (p + 10) (omega arith), raw_got 64 s (q + 10) (omega arith))

  same-raw : same_numbers (take 64 (drop (p + 10) s)) (take 64 (drop (q + 10) s)) ≡ false → wire ≡ false
  same-raw e = wire_is ∙ rw (e, both_off (eqb (word_of s (p + 6)) (word_of s (q + 6))), both_off (same_flag _ _), both_off (eqb (word_of s (p + 1)) _), both_off)

  -- told apart by the first raw byte
  pub same_first : (get_or s (p + 10) 0 ≡ get_or s (q + 10) 0 → ⊥) → wire ≡ false
  same_first d =
      let a : p + 10 + 0 ≡ p + 10 = omega arith in
      let b : q + 10 + 0 ≡ q + 10 = omega arith in
      same-raw (run_stop 64 s (p + 10) (q + 10) 0 (omega arith) (omega arith) (omega arith) (rw (a, b) d))

-- ---- the search for a copy among the first ones of i
module _ (s : List ℕ) (at : ℕ) where
  abbrev siger : ℕ → Siger
  siger p = siger_of s (at + p * 76)

  abbrev sigers : ℕ → List Siger
  sigers p = list_of (siger_of s) 76 p at

  one_further : (n p : ℕ) → p < n → sigers (p + 1) ≡ sigers p ++ (siger p ∷ [])
  one_further n p h = list-next (siger_of s) 76 p at

  pub firsts_none : firsts_from s at 0 ≡ 0
  firsts_none = none_yet_lem same_wire siger sigers

  -- before the first position there is none
  pub none_before : (x : Siger) → any (same_wire x) (sigers 0) ≡ false
  unfolding any list_of
  none_before x = refl

  module _ (i set : ℕ) (e : set ≡ firsts_from s at i) where
    pub firsts_kept : any (same_wire (siger i)) (sigers i) ≡ true → set ≡ firsts_from s at (i + 1)
    firsts_kept f = e ∙ first-kept same_wire siger sigers i f

    pub firsts_with : i < 64 → any (same_wire (siger i)) (sigers i) ≡ false → with_first set i ≡ firsts_from s at (i + 1)
    firsts_with h f = rw e (first_more same_wire siger sigers i h f)

    module _ (x : Siger) (j : ℕ) (h : j < i) where
      pub list_copy : both (has_first set j) (same_wire x (siger j)) ≡ true → any (same_wire x) (sigers i) ≡ true
      list_copy f = is_copy same_wire siger sigers wire_trans i (one_further i) x i j h (le_refl i) (rw e at f)

      pub list_other : {b : Bool} → i ≤ 64 → any (same_wire x) (sigers j) ≡ false → b ≡ both (has_first set j) (same_wire x (siger j)) → b ≡ false
          → any (same_wire x) (sigers (j + 1)) ≡ false
      list_other w d f g = no_copy same_wire siger sigers wire_trans i (one_further i) x i j h (le_refl i) w d (rw e at (sym f ∙ g))

-- ---- the sets of places
module _ (keys next : ℕ) (s : List ℕ) (at : ℕ) where
  abbrev counted : ℕ → Counted
  counted i = counted_of keys next (list_of (siger_of s) 76 i at)

  module _ (i : ℕ) (c : Counted) (e : c ≡ counted i) where
    abbrev copied : Bool
    copied = any (same_wire (siger_of s (at + i * 76))) (list_of (siger_of s) 76 i at)

    pub next_copy : copied ≡ true → c ≡ counted (i + 1)
    next_copy f = rw (list-next (siger_of s) 76 i at) (e ∙ counted-copy keys next (list_of (siger_of s) 76 i at) (siger_of s (at + i * 76)) f)

    pub next_more : (m : Claim) (r : Counted) → m ≡ claim_of (siger_of s (at + i * 76)) → r ≡ counted_with keys next c (claimed m) → copied ≡ false → r ≡ counted (i + 1)
    unfolding counted_with exposed_with
    next_more m r g d f = d ∙ rw (list-next (siger_of s) 76 i at, g, e) (counted_more keys next (list_of (siger_of s) 76 i at) (siger_of s (at + i * 76)) f)

  abbrev zero-set : Counted
  zero-set = record { verified = 0; exposed = 0 }

  pub count_none : zero-set ≡ counted 0
  count_none = rw (list-none (siger_of s) 76 at) (sym (counted_none keys next))

  module _ (n : ℕ) where
    pub count_over : 48 < n → zero-set ≡ counted_of keys next (sigers_of s n at)
    count_over h = rw (many_over (siger_of s) 76 48 s n at h) (sym (counted_none keys next))

    pub count_short : n ≤ 48 → length s < at + n * 76 → zero-set ≡ counted_of keys next (sigers_of s n at)
    count_short h k = rw (many_short (siger_of s) 76 48 s n at h k) (sym (counted_none keys next))

    pub count_all : (i : ℕ) (c : Counted) → n ≤ 48 → at + n * 76 ≤ length s → i ≡ n → c ≡ counted i → c ≡ counted_of keys next (sigers_of s n at)
    count_all i c h k d e = rw (many_got (siger_of s) 76 48 s n at h k, ← d) e

-- what counting asks for
pub ruleset counting = (count_none, count_over, count_short, count_all, next_copy, firsts_none, firsts_kept)

-- ---- by values: each field in turn, had with its value and the place behind it
module _ (s : List ℕ) where
  word_got : (p : ℕ) → p + 4 ≤ length s → num_at 4 s p ≡ got (word_of s p) (p + 4)
  word_got p h = rw (num_got 4 s p h)

  chosen : {A B : Type 0} (b : Bool) (a : A) (q : ℕ) (k : A → ℕ → Parse B) {x : Parse B} → k a q ≡ x → bind (pick b (got a q) (bad 3)) k ≡ pick b x (bad 3)
  chosen true a q k e = e
  chosen false a q k e = refl

  module _ {A : Type 0} (p q : ℕ) {x : Parse A} where
    had_byte : (k : ℕ → ℕ → Parse A) → p + 1 ≤ length s → p + 1 ≡ q → k (get_or s p 0) q ≡ x → bind (byte_at s p) k ≡ x
    had_byte k h e f = let g : p < length s = omega arith in rw (byte_got s p g, e) f

    had_word : (k : ℕ → ℕ → Parse A) → p + 4 ≤ length s → p + 4 ≡ q → k (word_of s p) q ≡ x → bind (num_at 4 s p) k ≡ x
    had_word k h e f = rw (word_got p h, e) f

    had_flag : (k : Bool → ℕ → Parse A) → p + 1 ≤ length s → p + 1 ≡ q → k (eqb (get_or s p 0) 1) q ≡ x
        → bind (flag_at s p) k ≡ pick (leb (get_or s p 0) 1) x (bad 3)
    unfolding flag_at
    had_flag k h e f = let g : p < length s = omega arith in rw (byte_got s p g, e) (chosen (leb (get_or s p 0) 1) (eqb (get_or s p 0) 1) q k f)

    had_ondex : (d : Bool) (k : ℕ → ℕ → Parse A) → p + 4 ≤ length s → p + 4 ≡ q → k (word_of s p) q ≡ x
        → bind (ondex_at d s p) k ≡ pick (either d (eqb (word_of s p) 0)) x (bad 3)
    unfolding ondex_at
    had_ondex d k h e f = rw (word_got p h, e) (chosen (either d (eqb (word_of s p) 0)) (word_of s p) q k f)

    had_raw : (k : List ℕ → ℕ → Parse A) → p + 64 ≤ length s → p + 64 ≡ q → k (raw_of 64 s p) q ≡ x → bind (raw_at 64 s p) k ≡ x
    unfolding raw_at
    had_raw k h e f = rw (le-leb (p + 64) (length s) h, ← raw_got 64 s p h, e) f

  siger_had : (at : ℕ) → at + 76 ≤ length s
      → siger_at s at
      ≡ pick (leb (get_or s (at + 5) 0) 1)
      (pick (either (eqb (get_or s (at + 5) 0) 1) (eqb (word_of s (at + 6)) 0))
      (pick (leb (get_or s (at + 74) 0) 1) (pick (leb (get_or s (at + 75) 0) 1) (got (siger_of s at) (at + 76)) (bad 3)) (bad 3))
      (bad 3))
      (bad 3)
  unfolding siger_at siger_of
  siger_had at h =
      had_byte at (at + 1) _ (omega arith) refl
      (had_word (at + 1) (at + 5) _ (omega arith) (omega arith)
      (had_flag (at + 5) (at + 6) _ (omega arith) (omega arith)
      (had_ondex (at + 6) (at + 10) (eqb (get_or s (at + 5) 0) 1) _ (omega arith) (omega arith)
      (had_raw (at + 10) (at + 74) _ (omega arith) (omega arith)
      (had_flag (at + 74) (at + 75) _ (omega arith) (omega arith) (had_flag (at + 75) (at + 76) _ (omega arith) (omega arith) refl))))))

  -- ---- or refused with 3, each field that is not had, and the last one where the bytes run out
  maybe : {A B : Type 0} (b : Bool) (a : A) (n : ℕ) (k : A → ℕ → Parse B) → k a n ≡ bad 3 → bind (pick b (got a n) (bad 3)) k ≡ bad 3
  maybe true a n k e = e
  maybe false a n k e = refl

  after : {A B C : Type 0} (x : Parse A) (f : A → ℕ → Parse B) (k : B → ℕ → Parse C) → bind (bind x f) k ≡ bind x (λ a n. bind (f a n) k)
  after (got a n) f k = refl
  after (bad r) f k = refl

  module _ {A : Type 0} (p : ℕ) where
    short-byte : (k : ℕ → ℕ → Parse A) → ((v : ℕ) → k v (p + 1) ≡ bad 3) → bind (byte_at s p) k ≡ bad 3
    unfolding byte_at
    short-byte k h = maybe (ltb p (length s)) (get_or s p 0) (p + 1) k (h (get_or s p 0))

    short_num : (w : ℕ) (k : ℕ → ℕ → Parse A) → ((v : ℕ) → k v (p + w) ≡ bad 3) → bind (num_at w s p) k ≡ bad 3
    unfolding num_at
    short_num w k h = maybe (leb (p + w) (length s)) (be_from 0 (take w (drop p s))) (p + w) k (h (be_from 0 (take w (drop p s))))

    short-raw : (w : ℕ) (k : List ℕ → ℕ → Parse A) → ((v : List ℕ) → k v (p + w) ≡ bad 3) → bind (raw_at w s p) k ≡ bad 3
    unfolding raw_at
    short-raw w k h = maybe (leb (p + w) (length s)) (take w (drop p s)) (p + w) k (h (take w (drop p s)))

    short-flag : (k : Bool → ℕ → Parse A) → ((v : Bool) → k v (p + 1) ≡ bad 3) → bind (flag_at s p) k ≡ bad 3
    unfolding flag_at
    short-flag k h = after (byte_at s p) _ k ∙ short-byte _ λ v. maybe (leb v 1) (eqb v 1) (p + 1) k (h (eqb v 1))

    short_ondex : (d : Bool) (k : ℕ → ℕ → Parse A) → ((v : ℕ) → k v (p + 4) ≡ bad 3) → bind (ondex_at d s p) k ≡ bad 3
    unfolding ondex_at
    short_ondex d k h = after (num_at 4 s p) _ k ∙ short_num 4 _ λ v. maybe (either d (eqb v 0)) v (p + 4) k (h v)

    short_last : (k : Bool → ℕ → Parse A) → length s ≤ p → bind (flag_at s p) k ≡ bad 3
    unfolding flag_at
    short_last k h = rw (byte-short s p h)

  siger-short : (at : ℕ) → length s < at + 76 → siger_at s at ≡ bad 3
  unfolding siger_at
  siger-short at h =
      short-byte at _ λ code.
      short_num (at + 1) 4 _ λ index.
      short-flag (at + 1 + 4) _ λ dual.
      short_ondex (at + 1 + 4 + 1) dual _ λ ondex.
      short-raw (at + 1 + 4 + 1 + 4) 64 _ λ raw.
      short-flag (at + 1 + 4 + 1 + 4 + 64) _ λ verified.
      short_last (at + 1 + 4 + 1 + 4 + 64 + 1) _ (omega arith)

  -- a signature by its place is one by its value
  pub siger_values : (at : ℕ) → Agree 76 (length s) at (place_at s at) (siger_at s at) (siger_of s at)
  unfolding place_at shaped_at
  siger_values at = by_room (leb (at + 76) (length s)) refl
    where
      tests : at + 76 ≤ length s → (a b c d : Bool)
          → Agree 76 (length s) at (pick (both a (both b (both c d))) (got at (at + 76)) (bad 3))
          (pick a (pick b (pick c (pick d (got (siger_of s at) (at + 76)) (bad 3)) (bad 3)) (bad 3)) (bad 3))
          (siger_of s at)
      tests h true true true true = had h refl refl
      tests h true true true false = refused 3 refl refl
      tests h true true false d = refused 3 refl refl
      tests h true false c d = refused 3 refl refl
      tests h false b c d = refused 3 refl refl

      by_room : (b : Bool) → leb (at + 76) (length s) ≡ b → Agree 76 (length s) at (place_at s at) (siger_at s at) (siger_of s at)
      by_room true e =
          let h = leb-true (at + 76) (length s) e in
          rw (siger_had at h, e)
          (tests h (leb (get_or s (at + 5) 0) 1) (either (eqb (get_or s (at + 5) 0) 1) (eqb (word_of s (at + 6)) 0)) (leb (get_or s (at + 74) 0) 1) (leb (get_or s (at + 75) 0) 1))
      by_room false e =
          let h = leb-false (at + 76) (length s) e in
          refused 3 (place_bad s at (shaped_short s at h)) (siger-short at h)

  packs : {A B : Type 0} (f : A → B) (x : Parse Listing) (v : Listing → A) → mapped (λ (m : Listing). f (v m)) x ≡ bind (mapped v x) (λ a q. got (f a) q)
  packs f (got m q) v = refl
  packs f (bad r) v = refl

  -- the signatures at the places that a scan gave are those of the record
  pub sigers_values : (at : ℕ) → mapped (λ (m : Listing). packed_sigers (sigers_of s m.count m.first)) (sigers_span s at) ≡ sigers_at s at
  unfolding sigers_at
  sigers_values at =
      packs packed_sigers (sigers_span s at) (λ (m : Listing). sigers_of s m.count m.first)
      ∙ ap (λ (x : Parse (List Siger)). bind x (λ xs q. got (packed_sigers xs) q)) (span_values (place_at s) (siger_at s) (siger_of s) 76 48 s siger_values at)
