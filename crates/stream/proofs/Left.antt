-- The bytes that reads bring, and the records that they make. Assumes nothing.
--     filled_more                   as a loop reads on behind what it has
--     skipped_more                  as a loop reads and forgets
--     hold_left                     what was left of the input is left
--     short_gives, long_gives       the record that what is left begins with
--     wrote_more                    as a loop writes on behind what it wrote
use Rattle.std.proofs.Common.{◌≡◌, sym, ap, ◌∙◌, subst, List, ◌++◌, ℕ, ◌+◌, ◌-◌, ◌≤◌, ◌<◌, arith, append_assoc, length, take, drop, length-append, length-drop, length-take-le, take-add, take-take, drop-drop, drop_at, Option, Some, None, IfSome, []}
use lib.Seq.{take-append-le, drop-append-le}
use Rattle.std.proofs.lemmas.List.{drop-take}
use Rattle.std.specs.Io.KnownBytes.{prepend_known, Keeps, Consumes, Appends}
use Rattle.std.proofs.KnownBytes.{Consumes-trans, Consumes-kept, Appends-trans}
use Rattle.stream.specs.declared.Span.{Span}
use Rattle.stream.specs.declared.Place.{Place}
use Rattle.stream.specs.Window.{size_of}
use Rattle.stream.specs.Left.{unused, left_of, Begins}
use Rattle.stream.proofs.Laws.{part_same, same_size}

-- ---- As a loop reads on
-- what stands from a to b, and from b to c
parts_joined : (v : List ℕ) (a b c : ℕ) → a ≤ b → b ≤ c → take (b - a) (drop a v) ++ take (c - b) (drop b v) ≡ take (c - a) (drop a v)
parts_joined v a b c h k =
    let m : b ≡ a + (b - a) = omega arith in
    let n : (b - a) + (c - b) ≡ c - a = omega arith in
    ap (λ (i : ℕ). take (b - a) (drop a v) ++ take (c - b) (drop i v)) m
    ∙ ap (λ (xs : List ℕ). take (b - a) (drop a v) ++ take (c - b) xs) (sym (drop-drop (b - a) a v))
    ∙ sym (take-add (b - a) (c - b) (drop a v))
    ∙ ap (λ (i : ℕ). take i (drop a v)) n

front_joined : (v : List ℕ) (b c : ℕ) → b ≤ c → take b v ++ take (c - b) (drop b v) ≡ take c v
front_joined v b c h =
    let n : b + (c - b) ≡ c = omega arith in sym (take-add b (c - b) v) ∙ ap (λ (i : ℕ). take i v) n

module _ (p q r : Option (List ℕ)) (w v : List ℕ) (have to : ℕ) (h : have ≤ to) (k : to ≤ length w) (same : length v ≡ length w) (e : take to v ≡ take to w) (brought : Consumes p q (take (to - have) (drop have w))) where
  as_before : take (to - have) (drop have w) ≡ take (to - have) (drop have v)
  as_before = sym (part_same v w have (to - have) to (omega arith) (omega arith) (omega arith) e)

  now : Consumes p q (take (to - have) (drop have v))
  now = subst (Consumes p q) as_before brought

  pub filled_more : (n : ℕ) → to ≤ n → Consumes q r (take (n - to) (drop to v)) → Consumes p r (take (n - have) (drop have v))
  filled_more n l more = subst (Consumes p r) (parts_joined v have to n h l) (Consumes-trans p q r _ _ now more)

  pub filled_end : Keeps q r → Consumes p r (take (to - have) (drop have v))
  filled_end = Consumes-kept p q r _ now

-- ---- As a loop reads and forgets
module _ (p q r : Option (List ℕ)) (bs : List ℕ) (left count : ℕ) (brought : Consumes p q bs) (e : length bs + left ≡ count) where
  pub skipped_more : (xs : List ℕ) (n : ℕ) → length xs ≡ n → n ≤ left → Consumes q r xs → (ys : List ℕ) × Consumes p r ys × (length ys + (left - n) ≡ count)
  skipped_more xs n l k more = (bs ++ xs, Consumes-trans p q r bs xs brought more, simp length-append (omega arith))

-- ---- What is left
kept_before : (a b : Option (List ℕ)) (us bs : List ℕ) → Consumes a b bs → Keeps (prepend_known us a) (prepend_known (us ++ bs) b)
kept_before None b us bs p = tt
kept_before (Some x) None us bs p = absurd p
kept_before (Some x) (Some y) us bs p = append_assoc us bs y ∙ ap (λ (l : List ℕ). us ++ l) (sym p)

pub hold_left : (a b : Option (List ℕ)) (w₀ w₁ w₂ : List ℕ) (s : Span) (n : ℕ) → take (s.to - s.from) w₁ ≡ take (s.to - s.from) (drop s.from w₀)
    → take (s.to - s.from) w₂ ≡ take (s.to - s.from) w₁ → s.to - s.from ≤ n → Consumes a b (take (n - (s.to - s.from)) (drop (s.to - s.from) w₂))
    → Keeps (left_of w₀ s a) (left_of w₂ (record { from = 0; to = n }) b)
hold_left a b w₀ w₁ w₂ s n moved read l brought =
    let have : ℕ = s.to - s.from in
    let m : n ≡ n - 0 = omega arith in
    let e : unused w₀ s ++ take (n - have) (drop have w₂) ≡ take (n - 0) w₂ =
    ap (λ (xs : List ℕ). xs ++ take (n - have) (drop have w₂)) (sym (read ∙ moved)) ∙ front_joined w₂ have n l ∙ ap (λ (i : ℕ). take i w₂) m in
    subst (λ (xs : List ℕ). Keeps (left_of w₀ s a) (prepend_known xs b)) e (kept_before a b (unused w₀ s) _ brought)

-- ---- Records
-- the unused bytes of a window, and what comes behind them
module _ (w ys : List ℕ) (s : Span) (ordered : s.from ≤ s.to) (within : s.to ≤ length w) where
  pub unused_length : length (unused w s) ≡ s.to - s.from
  unused_length = length-take-le (s.to - s.from) (drop s.from w) (simp length-drop (omega arith))

  front : (k : ℕ) → k ≤ s.to - s.from → take k (unused w s ++ ys) ≡ take k (drop s.from w)
  front k h =
      let l : k ≤ length (unused w s) = omega (arith, unused_length) in
      take-append-le k (unused w s) ys l ∙ take-take k (s.to - s.from) (drop s.from w) h

  same : 4 ≤ s.to - s.from → size_of (unused w s ++ ys) ≡ size_of (drop s.from w)
  same h = same_size (unused w s ++ ys) (drop s.from w) (front 4 h)

  whole_length : length (unused w s ++ ys) ≡ (s.to - s.from) + length ys
  whole_length = simp length-append (ap (λ (n : ℕ). n + length ys) unused_length)

  rest : (k : ℕ) → k ≤ s.to - s.from → take (s.to - (s.from + k)) (drop (s.from + k) w) ++ ys ≡ drop k (unused w s ++ ys)
  rest k h =
      let l : k ≤ length (unused w s) = omega (arith, unused_length) in
      let n : s.to - s.from ≡ k + (s.to - (s.from + k)) = omega arith in
      let d : drop k (unused w s) ≡ take (s.to - (s.from + k)) (drop (s.from + k) w) =
      ap (λ (i : ℕ). drop k (take i (drop s.from w))) n ∙ drop-take k (s.to - (s.from + k)) (drop s.from w) ∙ ap (take (s.to - (s.from + k))) (drop-drop k s.from w) in
      sym (drop-append-le k (unused w s) ys l ∙ ap (λ (xs : List ℕ). xs ++ ys) d)

pub short_gives : (known left : Option (List ℕ)) (w : List ℕ) (s : Span) (size : ℕ) → s.from ≤ s.to → s.to ≤ length w → 4 ≤ s.to - s.from → size ≡ size_of (drop s.from w)
    → size ≤ s.to - s.from → Keeps known (left_of w s left) → IfSome known (λ xs. Begins xs w left (record { from = s.from; to = s.from + size; end = s.to }))
short_gives None left w s size o i four is fits k = tt
short_gives (Some xs) None w s size o i four is fits k = absurd k
short_gives (Some xs) (Some ys) w s size o i four is fits k =
    let at : ℕ → Place = λ (n : ℕ). record { from = s.from; to = s.from + n; end = s.to } in
    let e : size_of (unused w s ++ ys) ≡ size = same w ys s o i four ∙ sym is in
    let n : s.from + size - s.from ≡ size = omega arith in
    subst (λ (zs : List ℕ). Begins zs w (Some ys) (at size)) k
    (record {
      whole = rw (e, whole_length w ys s o i) (omega arith);
      shown = rw n (sym (front w ys s o i size fits));
      behind = rw e (ap (λ (zs : List ℕ). Some zs) (rest w ys s o i size fits));
    })

-- a record that fills the window, and goes on
module _ (w v : List ℕ) (s : Span) (len size : ℕ) (m : length w ≡ len) (o : s.from ≤ s.to) (i : s.to ≤ length w) (full : len ≤ s.to - s.from) (large : 10090 < len) (is : size ≡ size_of (drop s.from w)) (l : len < size) where
  pub long_gives : (known mid left : Option (List ℕ)) → length v ≡ length w → take (s.from + 10090) v ≡ take (s.from + 10090) w
      → Keeps known (left_of w s mid) → (bs : List ℕ) × Consumes mid left bs × (length bs ≡ size - len)
      → IfSome known (λ xs. Begins xs v left (record { from = s.from; to = s.from + 10090; end = s.from + 10090 }))
  long_gives None mid left same_length kept k over = tt
  long_gives (Some xs) None left same_length kept k over = absurd k
  long_gives (Some xs) (Some ms) None same_length kept k (bs, brought, count) = absurd brought
  long_gives (Some xs) (Some ms) (Some ys) same_length kept k (bs, brought, count) =
      let at : Place = record { from = s.from; to = s.from + 10090; end = s.from + 10090 } in
      let us : List ℕ = unused w s in
      let four : 4 ≤ s.to - s.from = omega arith in
      let e : size_of (us ++ ms) ≡ size = same w ms s o i four ∙ sym is in
      let kept_part : take 10090 (drop s.from v) ≡ take 10090 (drop s.from w) =
      part_same v w s.from 10090 (s.from + 10090) (omega arith) (omega arith) (omega arith) kept in
      let shows : take 10090 (drop s.from v) ≡ take 10090 (us ++ ms) = kept_part ∙ sym (front w ms s o i 10090 (omega arith)) in
      let t : s.from + 10090 - s.from ≡ 10090 = omega arith in
      let z : s.from + 10090 - (s.from + 10090) ≡ 0 = omega arith in
      let ends : us ++ ms ≡ (us ++ bs) ++ ys = ap (λ (zs : List ℕ). us ++ zs) brought ∙ sym (append_assoc us bs ys) in
      let all_length : length (us ++ bs) ≡ size = simp length-append (omega (arith, unused_length w [] s o i)) in
      let all : length (us ++ ms) ≡ size + length ys = ap length ends ∙ length-append (us ++ bs) ys ∙ ap (λ (i : ℕ). i + length ys) all_length in
      subst (λ (zs : List ℕ). Begins zs v (Some ys) at) k
      (record {
        whole = rw (e, all) (omega arith);
        shown = rw t shows;
        behind = rw (e, z) (ap (λ (zs : List ℕ). Some zs) (sym (ap (drop size) ends ∙ drop_at (us ++ bs) ys size all_length)));
      })

-- ---- Writes
pub wrote_more : (p q r : Option (List ℕ)) (out : List ℕ) (done n : ℕ) → done ≤ n → Appends p q (take done out) → Appends q r (take (n - done) (drop done out)) → Appends p r (take n out)
wrote_more p q r out done n h wrote more =
    subst (Appends p r) (front_joined out done n h) (Appends-trans p q r _ _ wrote more)
