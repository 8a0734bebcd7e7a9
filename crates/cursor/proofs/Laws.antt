-- Big-endian numbers over the width, copied bytes over the length, and lists by their places. Assumes nothing.
--     pair-                a number of two bytes
--     num-, byte-, raw-    a number, a byte, a copy: where there is room, and where there is not
--     runs-, span-         what a loop over a list's fields has read, and has yet to read
--     list_more            what a loop that fills an array holds after one value more
--     span_values          scanning a list and copying it after is reading it
use mathlib.Core.Path.{◌≡◌, refl, sym, ap, ◌∙◌}
use mathlib.Core.Bool.{Bool, true, false}
use mathlib.Core.List.{List, ◌∷◌, ◌++◌, []}
use Prim.Native.Nat.{ℕ, zero, suc, ◌+◌, ◌*◌, ◌-◌, ◌≤◌, ◌<◌}
use native.Mathlib.Nat.{zero-mul, suc-mul, add-zero, add_assoc, add_comm}
use native.Mathlib.Numerals.{add-one}
use native.Mathlib.Omega.{arith}
use lib.Dec.{leb, ltb}
use lib.ListN.{length, take, drop, get_or, set, replicate, length-drop}
use lib.Seq.{take-suc, get_or-drop, drop-cons}
use denote.Ref.{Bor}
use Rattle.std.specs.Array.{IsFirstChunk}
use Rattle.std.specs.Prelude.{Option, Some, None, MatchOption, ◌⊎◌, slice_range}
use Rattle.std.specs.Int.{w16, w32, w64, from_be_bytes}
use Rattle.std.proofs.lemmas.List.{take_all}
use borrow.Author.Tests.{le-leb, lt-leb, lt-ltb, le-ltb, leb-true, leb-false, ltb-true}
use Rattle.lists.specs.Lists.{pick, padded}
use Rattle.lists.proofs.Facts.{clash}
use Rattle.lists.proofs.Padding.{padded_push}
use Rattle.format.specs.Parse.{Parse, got, bad, bind, byte_at, be_from, num_at, raw_at, many_at, list_at}
use Rattle.cursor.specs.declared.Listing.{Listing}
use Rattle.cursor.specs.Cursor.{raw_of}
use Rattle.cursor.specs.Spans.{mapped, runs, span_at, list_of, many_of}

be_snoc : (a : ℕ) (xs : List ℕ) (x : ℕ) → be_from a (xs ++ (x ∷ [])) ≡ be_from a xs * 256 + x
unfolding be_from
be_snoc a [] x = refl
be_snoc a (y ∷ xs) x = be_snoc (a * 256 + y) xs x

-- one byte more
pub be_more : (s : List ℕ) (at i : ℕ) → at + i < length s
    → be_from 0 (take (i + 1) (drop at s)) ≡ be_from 0 (take i (drop at s)) * 256 + get_or s (at + i) 0
be_more s at i h =
    let k : i < length (drop at s) = simp length-drop (omega arith) in
    rw (add-one, take-suc (drop at s) i 0, get_or-drop) (be_snoc 0 (take i (drop at s)) (get_or s (at + i) 0))

-- a number by its bytes, as the library's words make it
from_none : be_from 0 [] ≡ 0
unfolding be_from
from_none = refl

pub be_2 : (bs : List ℕ) → length bs ≡ 2 → from_be_bytes w16 bs ≡ be_from 0 bs
be_2 bs e =
    let e0 = be_more bs 0 0 (omega arith) in
    let e1 = be_more bs 0 1 (omega arith) in
    let w : be_from 0 (take 2 bs) ≡ be_from 0 bs = ap (be_from 0) (take_all 2 bs (omega arith)) in
    let z : be_from 0 (take 0 bs) ≡ 0 = from_none in
    omega (arith, e0, e1, w, z)

pub be_4 : (bs : List ℕ) → length bs ≡ 4 → from_be_bytes w32 bs ≡ be_from 0 bs
be_4 bs e =
    let e0 = be_more bs 0 0 (omega arith) in
    let e1 = be_more bs 0 1 (omega arith) in
    let e2 = be_more bs 0 2 (omega arith) in
    let e3 = be_more bs 0 3 (omega arith) in
    let w : be_from 0 (take 4 bs) ≡ be_from 0 bs = ap (be_from 0) (take_all 4 bs (omega arith)) in
    let z : be_from 0 (take 0 bs) ≡ 0 = from_none in
    omega (arith, e0, e1, e2, e3, w, z)

pub be_8 : (bs : List ℕ) → length bs ≡ 8 → from_be_bytes w64 bs ≡ be_from 0 bs
be_8 bs e =
    let e0 = be_more bs 0 0 (omega arith) in
    let e1 = be_more bs 0 1 (omega arith) in
    let e2 = be_more bs 0 2 (omega arith) in
    let e3 = be_more bs 0 3 (omega arith) in
    let e4 = be_more bs 0 4 (omega arith) in
    let e5 = be_more bs 0 5 (omega arith) in
    let e6 = be_more bs 0 6 (omega arith) in
    let e7 = be_more bs 0 7 (omega arith) in
    let w : be_from 0 (take 8 bs) ≡ be_from 0 bs = ap (be_from 0) (take_all 8 bs (omega arith)) in
    let z : be_from 0 (take 0 bs) ≡ 0 = from_none in
    omega (arith, e0, e1, e2, e3, e4, e5, e6, e7, w, z)

module _ (w : ℕ) (s : List ℕ) (at : ℕ) where
  pub num_got : at + w ≤ length s → num_at w s at ≡ got (be_from 0 (take w (drop at s))) (at + w)
  unfolding num_at
  num_got h = simp (le-leb _ _ h)

  pub num_short : length s < at + w → num_at w s at ≡ bad 3
  unfolding num_at
  num_short h = simp (lt-leb _ _ h)

-- a number of two bytes, where it was read
pub record Pair (s : List ℕ) (at v n : ℕ) : Type 0 where
  pub within : at + 2 ≤ length s
  pub behind : n ≡ at + 2
  pub is : v ≡ get_or s at 0 * 256 + get_or s (at + 1) 0

abbrev value_in : Parse ℕ → ℕ
value_in (got v n) = v
value_in (bad k) = 0

abbrev place_in : Parse ℕ → ℕ
place_in (got v n) = n
place_in (bad k) = 0

abbrev is_got : Parse ℕ → Bool
is_got (got v n) = true
is_got (bad k) = false

module _ (s : List ℕ) (at : ℕ) where
  two_bytes : at + 2 ≤ length s → be_from 0 (take 2 (drop at s)) ≡ get_or s at 0 * 256 + get_or s (at + 1) 0
  unfolding be_from
  two_bytes h =
      let one : be_from 0 (take 1 (drop at s)) ≡ 0 * 256 + get_or s (at + 0) 0 = be_more s at 0 (omega arith) in
      let two : be_from 0 (take 2 (drop at s)) ≡ be_from 0 (take 1 (drop at s)) * 256 + get_or s (at + 1) 0 = be_more s at 1 (omega arith) in
      let z : 0 * 256 + get_or s (at + 0) 0 ≡ get_or s at 0 = rw (add-zero at) (omega arith) in
      two ∙ ap (λ (x : ℕ). x * 256 + get_or s (at + 1) 0) (one ∙ z)

  pub pair_got : (v n : ℕ) → got v n ≡ num_at 2 s at → Pair s at v n
  unfolding num_at
  pair_got v n e = by_test (leb (at + 2) (length s)) refl e
    where
      by_test : (t : Bool) → leb (at + 2) (length s) ≡ t → got v n ≡ pick t (got (be_from 0 (take 2 (drop at s))) (at + 2)) (bad 3) → Pair s at v n
      by_test true p q =
          let w = leb-true (at + 2) (length s) p in
          record { within = w; behind = ap place_in q; is = ap value_in q ∙ two_bytes w }
      by_test false p q = clash (ap is_got q)

  pub pair_short : (k : ℕ) → bad k ≡ num_at 2 s at → length s < at + 2
  unfolding num_at
  pair_short k e = by_test (leb (at + 2) (length s)) refl e
    where
      by_test : (t : Bool) → leb (at + 2) (length s) ≡ t → bad k ≡ pick t (got (be_from 0 (take 2 (drop at s))) (at + 2)) (bad 3) → length s < at + 2
      by_test true p q = clash (sym (ap is_got q))
      by_test false p q = leb-false (at + 2) (length s) p

-- bytes as they stand, and the number that they make
module _ (w : ℕ) (s : List ℕ) (at : ℕ) where
  pub raw_had : at + w ≤ length s → got (take w (drop at s)) (at + w) ≡ raw_at w s at
  unfolding raw_at
  raw_had h = rw (le-leb _ _ h)

  pub raw_missing : length s < at + w → bad 3 ≡ raw_at w s at
  unfolding raw_at
  raw_missing h = rw (lt-leb _ _ h)

  -- the first w bytes of what stands from a place on
  pub first_had : (rest : List ℕ) → rest ≡ drop at s → length rest + at ≡ length s → (r : Option (Bor (List ℕ)))
      → MatchOption r (length rest < w) (λ y. IsFirstChunk rest y.now w)
      → MatchOption r (length s < at + w) (λ y. (at + w ≤ length s) × (y.now ≡ take w (drop at s)))
  first_had rest e n None h = omega (arith, h)
  first_had rest e n (Some y) h = (omega (arith, h.enough), h.same ∙ ap (take w) e)

  pub part_had : (rest : List ℕ) → rest ≡ drop at s → length rest + at ≡ length s → (r : Option (Bor (List ℕ)))
      → MatchOption r ((w < 0) ⊎ (length rest < w)) (λ y. (0 ≤ w) × (w ≤ length rest) × (y.now ≡ slice_range rest 0 w) × (length y.now + 0 ≡ w))
      → MatchOption r (length s < at + w) (λ y. (at + w ≤ length s) × (y.now ≡ take w (drop at s)))
  part_had rest e n None h = omega (arith, h)
  part_had rest e n (Some y) h = let z : w - 0 ≡ w = omega arith in (omega (arith, h.1), h.2 ∙ ap (λ (k : ℕ). take k rest) z ∙ ap (take w) e)

  -- bytes had are a number had
  number_is : mapped (be_from 0) (raw_at w s at) ≡ num_at w s at
  unfolding raw_at num_at
  number_is = by_test (leb (at + w) (length s))
    where
      by_test : (t : Bool) → mapped (be_from 0) (pick t (got (take w (drop at s)) (at + w)) (bad 3)) ≡ pick t (got (be_from 0 (take w (drop at s))) (at + w)) (bad 3)
      by_test true = refl
      by_test false = refl

  pub number_had : (bs : List ℕ) (n v : ℕ) → got bs n ≡ raw_at w s at → v ≡ be_from 0 bs → got v n ≡ num_at w s at
  number_had bs n v e i = ap (λ (x : ℕ). got x n) i ∙ ap (mapped (be_from 0)) e ∙ number_is

  pub number_missing : bad 3 ≡ raw_at w s at → bad 3 ≡ num_at w s at
  number_missing e = ap (mapped (be_from 0)) e ∙ number_is

module _ (s : List ℕ) (at : ℕ) where
  pub byte_got : at < length s → byte_at s at ≡ got (get_or s at 0) (at + 1)
  unfolding byte_at
  byte_got h = simp (lt-ltb _ _ h)

  pub byte-short : length s ≤ at → byte_at s at ≡ bad 3
  unfolding byte_at
  byte-short h = simp (le-ltb _ _ h)

module _ (n : ℕ) (s : List ℕ) (at : ℕ) where
  pub raw-short : length s < at + n → raw_of n s at ≡ replicate n 0
  unfolding raw_of
  raw-short h = simp (lt-leb _ _ h)

  pub raw_got : at + n ≤ length s → raw_of n s at ≡ take n (drop at s)
  unfolding raw_of
  raw_got h = simp (le-leb _ _ h)

-- Runs of fields by one rule, as a loop walks them: i of n are read, and the next stands at p.
module _ {A : Type 0} (f : ℕ → Parse A) (n : ℕ) (i : ℕ) (p : ℕ) (x : Parse (Unit {0})) where
  pub runs_more : (a : A) (q : ℕ) → i < n → f p ≡ got a q → x ≡ runs f (n - i) p → x ≡ runs f (n - (i + 1)) q
  unfolding runs
  runs_more a q h e r =
      let m : n - i ≡ suc (n - (i + 1)) = omega arith in
      r ∙ rw m (rw e)

  pub runs_stop : (k : ℕ) → i < n → f p ≡ bad k → x ≡ runs f (n - i) p → x ≡ bad k
  unfolding runs
  runs_stop k h e r =
      let m : n - i ≡ suc (n - (i + 1)) = omega arith in
      r ∙ rw m (rw e)

  pub runs-end : n ≤ i → x ≡ runs f (n - i) p → x ≡ got tt p
  unfolding runs
  runs-end h r = let m : n - i ≡ 0 = omega arith in r ∙ rw m

-- A span: its count read, then its fields.
module _ {A : Type 0} (f : ℕ → Parse A) (max : ℕ) (s : List ℕ) (at : ℕ) where
  pub span_short : (k : ℕ) → byte_at s at ≡ bad k → span_at f max s at ≡ bad k
  unfolding span_at
  span_short k e = rw e

  pub span_many : (n p : ℕ) → byte_at s at ≡ got n p → max < n → span_at f max s at ≡ bad 4
  unfolding span_at
  span_many n p e h = rw (e, lt-leb n max h)

  pub span_bad : (n p k : ℕ) → byte_at s at ≡ got n p → n ≤ max → runs f n p ≡ bad k → span_at f max s at ≡ bad k
  unfolding span_at
  span_bad n p k e h r = rw (e, le-leb n max h, r)

  pub span_got : (n p q : ℕ) → byte_at s at ≡ got n p → n ≤ max → runs f n p ≡ got tt q → span_at f max s at ≡ got (record { count = n; first = p }) q
  unfolding span_at
  span_got n p q e h r = rw (e, le-leb n max h, r)

-- Lists of values w bytes apart, as a loop fills an array with them.
module _ {A : Type 0} (f : ℕ → A) (w : ℕ) where
  pub list-none : (p : ℕ) → list_of f w 0 p ≡ []
  unfolding list_of
  list-none p = refl

  pub list_length : (n p : ℕ) → length (list_of f w n p) ≡ n
  unfolding list_of
  list_length zero p = refl
  list_length (suc n) p = ap suc (list_length n (p + w))

  list-suc : (n p : ℕ) → list_of f w (suc n) p ≡ list_of f w n p ++ (f (p + n * w) ∷ [])
  unfolding list_of
  list-suc zero p = rw (zero-mul, add-zero)
  list-suc (suc n) p = rw (list-suc n (p + w), suc-mul, add_assoc p w (n * w), add_comm w (n * w))

  pub list-next : (n p : ℕ) → list_of f w (n + 1) p ≡ list_of f w n p ++ (f (p + n * w) ∷ [])
  list-next n p = rw add-one (list-suc n p)

  -- the array with one value more
  pub list_more : (m : ℕ) (z : A) (i p q : ℕ) (l : List A) (v : A) → i < m → q ≡ p + i * w → v ≡ f q
      → l ≡ padded m z (list_of f w i p) → set l i v ≡ padded m z (list_of f w (i + 1) p)
  list_more m z i p q l v h e d r =
      let n : length (list_of f w i p) ≡ i = list_length i p in
      let g : length (list_of f w i p) < m = omega arith in
      let a : set l i v ≡ set (padded m z (list_of f w i p)) (length (list_of f w i p)) v =
      ap (λ (x : List A). set x i v) r ∙ ap (λ (k : ℕ). set (padded m z (list_of f w i p)) k v) (sym n) in
      rw (list-next i p, ← e, ← d) (a ∙ padded_push z m (list_of f w i p) v g)

  module _ (max : ℕ) (s : List ℕ) (n p : ℕ) where
    pub many_over : max < n → many_of f w max s n p ≡ []
    unfolding many_of
    many_over h = rw (lt-leb _ _ h)

    pub many_short : n ≤ max → length s < p + n * w → many_of f w max s n p ≡ []
    unfolding many_of
    many_short h k = rw (le-leb _ _ h, lt-leb _ _ k)

    pub many_got : n ≤ max → p + n * w ≤ length s → many_of f w max s n p ≡ list_of f w n p
    unfolding many_of
    many_got h k = rw (le-leb _ _ h, le-leb _ _ k)

  -- nothing, nowhere
  pub many_none : (max : ℕ) (s : List ℕ) → many_of f w max s 0 0 ≡ []
  many_none max s = many_got max s 0 0 (omega arith) (omega arith) ∙ list-none 0

-- bytes one after another are a part of what they stand in
pub bytes_listed : (s : List ℕ) (n p : ℕ) → p + n ≤ length s → list_of (λ (k : ℕ). get_or s k 0) 1 n p ≡ take n (drop p s)
unfolding list_of
bytes_listed s zero p h = refl
bytes_listed s (suc n) p h =
    let l : p < length s = omega arith in
    let k : p + 1 + n ≤ length s = omega arith in
    rw (drop-cons s p 0 l, bytes_listed s n (p + 1) k, add-one)

-- A field of w bytes, by its place and by its value: had by both where there is room, or refused by both.
pub data Agree {A : Type 0} (w limit p : ℕ) (f : Parse ℕ) (g : Parse A) (v : A) : Type 0 where
  had : p + w ≤ limit → f ≡ got p (p + w) → g ≡ got v (p + w) → Agree w limit p f g v
  refused : (r : ℕ) → f ≡ bad r → g ≡ bad r → Agree w limit p f g v

-- a field that is its own value, and one whose value is f of its place
pub as_is : {A B C : Type 0} (g : B → C) (p : Parse A) (k : A → ℕ → Parse B) (l : A → ℕ → Parse C)
    → ((a : A) (n : ℕ) → mapped g (k a n) ≡ l a n) → mapped g (bind p k) ≡ bind p l
as_is g (got a n) k l h = h a n
as_is g (bad r) k l h = refl

pub at_place : {A A' B C : Type 0} (g : B → C) (f : A → A') (p : Parse A) (v : Parse A') (k : A → ℕ → Parse B) (l : A' → ℕ → Parse C)
    → mapped f p ≡ v → ((a : A) (n : ℕ) → mapped g (k a n) ≡ l (f a) n) → mapped g (bind p k) ≡ bind v l
at_place g f (got a n) v k l e h = h a n ∙ ap (λ (x : Parse _). bind x l) e
at_place g f (bad r) v k l e h = ap (λ (x : Parse _). bind x l) e

-- a group of fields within a chain is its fields, one after another
pub flat : {A B C D : Type 0} (g : C → D) (p : Parse A) (f : A → ℕ → Parse B) (k : B → ℕ → Parse C) {x : Parse D}
    → mapped g (bind p (λ a n. bind (f a n) k)) ≡ x → mapped g (bind (bind p f) k) ≡ x
flat g (got a n) f k e = e
flat g (bad r) f k e = e

module _ {A : Type 0} (f : ℕ → Parse ℕ) (g : ℕ → Parse A) (v : ℕ → A) (w limit : ℕ) (h : (p : ℕ) → Agree w limit p (f p) (g p) (v p)) where
  -- one by its place is one by its value
  pub place_value : (p : ℕ) → mapped v (f p) ≡ g p
  place_value p = go (h p)
    where
      go : Agree w limit p (f p) (g p) (v p) → mapped v (f p) ≡ g p
      go (had r a b) = rw (a, b)
      go (refused k a b) = rw (a, b)

  runs_values : (n p : ℕ) → bind (runs f n p) (λ _ q. got (list_of v w n p) q) ≡ many_at g n p
  unfolding runs list_of many_at
  runs_values zero p = refl
  runs_values (suc n) p = go (runs_values n (p + w)) (h p)
    where
      tail : (x : A) (r : Parse (Unit {0})) (xs : List A) → bind r (λ _ q. got (x ∷ xs) q) ≡ bind (bind r (λ _ q. got xs q)) (λ ys q. got (x ∷ ys) q)
      tail x (got t n) xs = refl
      tail x (bad r) xs = refl

      go : bind (runs f n (p + w)) (λ _ q. got (list_of v w n (p + w)) q) ≡ many_at g n (p + w) → Agree w limit p (f p) (g p) (v p)
          → bind (bind (f p) (λ _ q. runs f n q)) (λ _ q. got (v p ∷ list_of v w n (p + w)) q)
          ≡ bind (g p) (λ x q. bind (many_at g n q) (λ xs q. got (x ∷ xs) q))
      go e (had r a b) = rw (a, b, ← e) (tail (v p) (runs f n (p + w)) (list_of v w n (p + w)))
      go e (refused k a b) = rw (a, b)

  -- n that were had lie within the limit
  runs-room : (n p : ℕ) (t : Unit {0}) (q : ℕ) → p ≤ limit → runs f n p ≡ got t q → p + n * w ≤ limit
  unfolding runs
  runs-room zero p t q l e = rw zero-mul (omega arith)
  runs-room (suc n) p t q l e = go (runs-room n (p + w) t q) (h p)
    where
      go : (p + w ≤ limit → runs f n (p + w) ≡ got t q → p + w + n * w ≤ limit) → Agree w limit p (f p) (g p) (v p) → p + suc n * w ≤ limit
      go i (had r a b) =
          let d : runs f n (p + w) ≡ got t q = rw a at e in
          let k : p + w + n * w ≤ limit = i r d in
          rw suc-mul (omega arith)
      go i (refused k a b) = let d : ◌≡◌ {A = Parse (Unit {0})} (bad k) (got t q) = rw a at e in let z : ◌≡◌ {A = ℕ} 0 1 = cc in absurd (omega arith)

-- reading a list's places and copying the values after is reading the list
module _ {A : Type 0} (f : ℕ → Parse ℕ) (g : ℕ → Parse A) (v : ℕ → A) (w max : ℕ) (s : List ℕ) (h : (p : ℕ) → Agree w (length s) p (f p) (g p) (v p)) where
  span_run : (n p : ℕ) (r : Parse (Unit {0})) → runs f n p ≡ r → n ≤ max → p ≤ length s
      → mapped (λ (m : Listing). many_of v w max s m.count m.first) (bind r (λ _ q. got (record { count = n; first = p }) q)) ≡ bind r (λ _ q. got (list_of v w n p) q)
  span_run n p (got t q) e k l = rw (many_got v w max s n p k (runs-room f g v w (length s) h n p t q l e))
  span_run n p (bad r) e k l = refl

  span_counted : (n p : ℕ) (b : Bool) → leb n max ≡ b → p ≤ length s
      → mapped (λ (m : Listing). many_of v w max s m.count m.first) (pick b (bind (runs f n p) (λ _ q. got (record { count = n; first = p }) q)) (bad 4)) ≡ pick b (many_at g n p) (bad 4)
  span_counted n p true e l = span_run n p (runs f n p) refl (leb-true n max e) l ∙ runs_values f g v w (length s) h n p
  span_counted n p false e l = refl

  pub span_values : (at : ℕ) → mapped (λ (m : Listing). many_of v w max s m.count m.first) (span_at f max s at) ≡ list_at g max s at
  unfolding span_at list_at byte_at
  span_values at = go (ltb at (length s)) refl
    where
      go : (b : Bool) → ltb at (length s) ≡ b
          → mapped (λ (m : Listing). many_of v w max s m.count m.first)
          (bind (pick b (got (get_or s at 0) (at + 1)) (bad 3)) (λ n p. pick (leb n max) (bind (runs f n p) (λ _ q. got (record { count = n; first = p }) q)) (bad 4)))
          ≡ bind (pick b (got (get_or s at 0) (at + 1)) (bad 3)) (λ n p. pick (leb n max) (many_at g n p) (bad 4))
      go true e =
          let l : at + 1 ≤ length s = omega (arith, ltb-true at (length s) e) in
          span_counted (get_or s at 0) (at + 1) (leb (get_or s at 0) max) refl l
      go false e = refl
