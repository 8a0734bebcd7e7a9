-- A window of bytes: a move to its start, and what stands in it after more was read. Assumes nothing.
--     taken_less, part_same, same_size     parts of two windows that begin alike
--     slid                                 what was moved to the start
--     short_stands, long_stands            a record in the window
use Rattle.std.proofs.Common.{◌≡◌, sym, ap, ◌∙◌, List, ℕ, ◌+◌, ◌-◌, ◌≤◌, ◌<◌, arith, length, take, drop, get_or, length-drop, length-take, take-add, drop_at, length-take-le, take-take, get_or-take, le-leb}
use borrow.Author.Tests.{lt-leb}
use lib.Seq.{paste}
use Rattle.std.proofs.lemmas.List.{take_at}
use Rattle.stream.specs.declared.Span.{Span}
use Rattle.stream.specs.Window.{size_of, Longer, Stands}

pub taken_less : (w v : List ℕ) (have to : ℕ) → have ≤ to → take to w ≡ take to v → take have w ≡ take have v
taken_less w v have to h e = sym (take-take have to w h) ∙ ap (take have) e ∙ take-take have to v h

pub part_length : (xs : List ℕ) (a e : ℕ) → a ≤ e → e ≤ length xs → length (take (e - a) (drop a xs)) ≡ e - a
part_length xs a e h k = simp (length-take, length-drop) (omega arith)

-- what `copy_within` moved to the start
pub slid : (w v : List ℕ) (from to : ℕ) → from ≤ to → to ≤ length w → v ≡ paste w 0 (drop from w) (to - from) → take (to - from) v ≡ take (to - from) (drop from w)
slid w v from to h k e = rw e (take_at (take (to - from) (drop from w)) (drop (0 + (to - from)) w) (to - from) (length-take-le (to - from) (drop from w) (simp length-drop (omega arith))))

-- ---- A record in the window
drop-taken : (xs : List ℕ) (a k : ℕ) → a ≤ length xs → drop a (take (a + k) xs) ≡ take k (drop a xs)
drop-taken xs a k h = rw (take-add a k xs) (drop_at (take a xs) (take k (drop a xs)) a (length-take-le a xs h))

pub part_same : (xs ys : List ℕ) (a k n : ℕ) → a ≤ length xs → a ≤ length ys → a + k ≤ n → take n xs ≡ take n ys → take k (drop a xs) ≡ take k (drop a ys)
part_same xs ys a k n h j l e = sym (drop-taken xs a k h) ∙ ap (drop a) (taken_less xs ys (a + k) n l e) ∙ drop-taken ys a k j

pub same_size : (xs ys : List ℕ) → take 4 xs ≡ take 4 ys → size_of xs ≡ size_of ys
same_size xs ys e = rw (byte_at 2 (omega arith), byte_at 3 (omega arith))
  where
    byte_at : (i : ℕ) → i < 4 → get_or xs i 0 ≡ get_or ys i 0
    byte_at i h = sym (get_or-take 4 xs i 0 h) ∙ ap (λ (l : List ℕ). get_or l i 0) e ∙ get_or-take 4 ys i 0 h

-- how long the record is, where its first bytes were moved
pub size_moved : (w₀ w : List ℕ) (old s : Span) (size : ℕ) → Longer w₀ old w s → 4 ≤ old.to - old.from → size ≡ size_of (drop old.from w₀) → size ≡ size_of (drop s.from w)
size_moved w₀ w old s size l four is = is ∙ sym (same_size (drop s.from w) (drop old.from w₀) (l.stay 4 four))

pub short_stands : (w₀ w : List ℕ) (head s : Span) (size : ℕ) → Longer w₀ head w s → 4 ≤ head.to - head.from → size ≡ size_of (drop head.from w₀)
    → size ≤ length w → size ≤ s.to - s.from → Stands w₀ head w (record { from = s.from; to = s.from + size; end = s.to })
short_stands w₀ w head s size l four is fits all =
    let e : size_of (drop s.from w) ≡ size = sym (size_moved w₀ w head s size l four is) in
    let o = l.ordered in
    record {
      begins = omega arith;
      whole = rw (e, le-leb size (length w) fits);
      ordered = omega arith;
      within = l.within;
      stay = λ k h j. l.stay k h;
    }

pub long_stands : (w₀ w₁ w₂ : List ℕ) (head s : Span) (size : ℕ) → Longer w₀ head w₁ s → 4 ≤ head.to - head.from → size ≡ size_of (drop head.from w₀)
    → length w₂ ≡ length w₁ → length w₁ < size → 10090 ≤ s.to - s.from → take (s.from + 10090) w₂ ≡ take (s.from + 10090) w₁
    → Stands w₀ head w₂ (record { from = s.from; to = s.from + 10090; end = s.from + 10090 })
long_stands w₀ w₁ w₂ head s size l four is same large all kept =
    let o = l.ordered in
    let i = l.within in
    let stays : (k : ℕ) → k ≤ head.to - head.from → k ≤ 10090 → take k (drop s.from w₂) ≡ take k (drop head.from w₀) =
    (λ k h j. part_same w₂ w₁ s.from k (s.from + 10090) (omega arith) (omega arith) (omega arith) kept ∙ l.stay k h) in
    let e : size_of (drop s.from w₂) ≡ size = same_size (drop s.from w₂) (drop head.from w₀) (stays 4 four (omega arith)) ∙ sym is in
    record {
      begins = omega arith;
      whole = rw (e, lt-leb size (length w₂) (omega arith));
      ordered = omega arith;
      within = omega arith;
      stay = λ k h j. stays k h (omega arith);
    }
