-- Writing over a buffer, one piece after another. Assumes nothing.
--     over_..      nothing, the last byte first, one piece behind another
--     wrote        what a total writer does where there is room
--     Left         what is still to be written: `begin`, `fits`, `more`, `done`, `last` are all that a writer cites; `put_more`
--                  where the piece is a total writer's
--     pieces       for code that writes one piece behind another
--     digits_..    a loop that writes digits from the last one, as those of a number in bytes
use mathlib.Core.Path.{◌≡◌, refl, sym, ap, ◌∙◌}
use mathlib.Core.List.{List, ◌∷◌, ◌++◌, append_assoc, []}
use Prim.Native.Nat.{ℕ, zero, suc, ◌+◌, ◌-◌, ◌/◌, ◌%◌, ◌≤◌, ◌<◌}
use native.Mathlib.Nat.{add-zero, zero-add, add_assoc, not-suc-le-zero}
use native.Mathlib.Omega.{arith}
use lib.ListN.{length, take, drop, get_or, set, length-append, length-take, length-drop, take-append-drop, drop_of_length-le}
use lib.Seq.{take-set-le, length-take-le, drop-drop, drop-append-add, take-append_seam}
use borrow.Author.Tests.{le-leb}
use Rattle.std.proofs.lemmas.Grind.{common_steps}
use Rattle.std.proofs.lemmas.List.{drop-set}
use Rattle.lists.proofs.Walks.{head_of}
use Rattle.writer.specs.Writing.{be, over, Room, Wrote, put}

pub over_none : (at : ℕ) (b : List ℕ) → over at [] b ≡ b
unfolding over
over_none at b = rw (add-zero, take-append-drop)

length_over : (at : ℕ) (xs b : List ℕ) → at + length xs ≤ length b → length (over at xs b) ≡ length b
unfolding over
length_over at xs b h = simp (length-append, length-take, length-drop) (omega arith)

-- the last byte first
over_last : (at : ℕ) (xs : List ℕ) (y : ℕ) (b : List ℕ) → at + length xs < length b
    → over at (xs ++ (y ∷ [])) b ≡ over at xs (set b (at + length xs) y)
unfolding over
over_last at xs y b h =
    let k : at ≤ at + length xs = omega arith in
    rw (take-set-le at b (at + length xs) y k, drop-set b (at + length xs) y h, length-append, append_assoc, ← add_assoc)

pub over_start : (xs b : List ℕ) → over 0 xs b ≡ xs ++ drop (length xs) b
unfolding over
over_start xs b = rw zero-add

pub over_seam : (l d ys : List ℕ) (k : ℕ) → length l ≡ k → over k ys (l ++ d) ≡ l ++ (ys ++ drop (length ys) d)
unfolding over
over_seam l d ys k e = rw (← e, take-append_seam, drop-append-add)

-- one piece behind another
pub over_append : (at : ℕ) (xs ys b : List ℕ) → at + length xs ≤ length b
    → over at (xs ++ ys) b ≡ over (at + length xs) ys (over at xs b)
unfolding over
over_append at xs ys b h =
    let p : length (take at b ++ xs) ≡ at + length xs =
    rw length-append (ap (λ (n : ℕ). n + length xs) (length-take-le at b (omega arith))) in
    sym (rw (← append_assoc (take at b) xs (drop (at + length xs) b))
    (over_seam (take at b ++ xs) (drop (at + length xs) b) ys (at + length xs) p
    ∙ simp (drop-drop, append_assoc, length-append, add_assoc)))

-- the first byte first
pub over_cons : (at x : ℕ) (xs b : List ℕ) → at + suc (length xs) ≤ length b → over at (x ∷ xs) b ≡ over (at + 1) xs (over at (x ∷ []) b)
over_cons at x xs b h = over_append at (x ∷ []) xs b (omega arith)

over_one : (at x : ℕ) (b : List ℕ) → at < length b → over at (x ∷ []) b ≡ set b at x
over_one at x b h =
    let k : at + length {A = ℕ} [] < length b = omega arith in
    over_last at [] x b k ∙ rw (add-zero, over_none)

-- A piece as a loop copies it from the first byte: those from i on are to come; and none is left.
pub over_copied : (at i : ℕ) (xs b : List ℕ) → i < length xs → at + length xs ≤ length b
    → over (at + (i + 1)) (drop (i + 1) xs) (set b (at + i) (get_or xs i 0)) ≡ over (at + i) (drop i xs) b
over_copied at i xs b h k =
    let e : drop i xs ≡ get_or xs i 0 ∷ drop (i + 1) xs = head_of 0 xs i h in
    let l : at + i < length b = omega arith in
    let n : at + i + suc (length (drop (i + 1) xs)) ≤ length b = rw length-drop (omega arith) in
    let j : at + i + 1 ≡ at + (i + 1) = omega arith in
    sym (rw e (over_cons (at + i) (get_or xs i 0) (drop (i + 1) xs) b n ∙ rw (over_one (at + i) (get_or xs i 0) b l, j) refl))

pub over_all : (p i : ℕ) (xs b : List ℕ) → length xs ≤ i → over p (drop i xs) b ≡ b
over_all p i xs b h = rw (drop_of_length-le xs h) (over_none p b)

-- ---- What a total writer promises of xs: q is the place that it gives, b' the bytes behind it.
abbrev pub Put : List ℕ → ℕ → List ℕ → ℕ → List ℕ → Type 0
Put xs at b q b' = (q ≡ (put xs at b).0) × (b' ≡ (put xs at b).1)

module _ (xs : List ℕ) (at : ℕ) (b : List ℕ) where
  -- as a caller with room has it
  pub wrote : {q : ℕ} {b' : List ℕ} → Room xs at b → Put xs at b q b' → Wrote xs at b q b'
  unfolding put
  wrote h p =
      let e = le-leb (at + length xs) (length b) h in
      record { behind = rw e at p.0; bytes = rw e at p.1 }

-- ---- All of `all` is to be written from `at` on over b₀; what is left of it goes from p on over b.
pub record Left (all : List ℕ) (at : ℕ) (b₀ : List ℕ) (rest : List ℕ) (p : ℕ) (b : List ℕ) : Type 0 where
  pub is : over at all b₀ ≡ over p rest b
  pub end : at + length all ≡ p + length rest
  pub room : p + length rest ≤ length b

pub begin : (all : List ℕ) (at : ℕ) (b : List ℕ) → at + length all ≤ length b → Left all at b all at b
begin all at b h = record { is = refl; end = refl; room = h }

module _ {all b₀ b : List ℕ} {at p : ℕ} where
  -- there is room for the next piece
  pub fits : (xs rest : List ℕ) → Left all at b₀ (xs ++ rest) p b → p + length xs ≤ length b
  fits xs rest l = let r = l.room in omega (arith, simp length-append at r)

  pub more : {b' : List ℕ} {q : ℕ} (xs rest : List ℕ) → Left all at b₀ (xs ++ rest) p b → Wrote xs p b q b' → Left all at b₀ rest q b'
  more {b'} {q} xs rest l w =
      let h : p + length xs ≤ length b = fits xs rest l in
      let n : length (xs ++ rest) ≡ length xs + length rest = length-append xs rest in
      let e : q ≡ p + length xs = w.behind in
      let f : b' ≡ over p xs b = w.bytes in
      let m : length b' ≡ length b = rw f (length_over p xs b h) in
      let r = l.room in
      let d = l.end in
      record {
        is = l.is ∙ over_append p xs rest b h ∙ rw (e, f);
        end = omega arith;
        room = omega arith;
      }

  pub done : (rest : List ℕ) → rest ≡ [] → Left all at b₀ rest p b → Wrote all at b₀ p b
  done rest z l =
      let n : length rest ≡ 0 = ap length z in
      let d = l.end in
      record { behind = omega arith; bytes = sym (l.is ∙ rw z (over_none p b)) }

  -- the last piece
  pub last : {b' : List ℕ} {q : ℕ} (xs : List ℕ) → Left all at b₀ xs p b → Wrote xs p b q b' → Wrote all at b₀ q b'
  last {b'} {q} xs l w = record { behind = w.behind ∙ sym l.end; bytes = w.bytes ∙ sym l.is }

  pub put_more : {b' : List ℕ} {q : ℕ} (xs rest : List ℕ) → Left all at b₀ (xs ++ rest) p b → Put xs p b q b' → Left all at b₀ rest q b'
  put_more xs rest l e = more xs rest l (wrote xs p b (fits xs rest l) e)

-- ---- Digits, in any base and by any glyphs: w of them are those of what stands before the last one, and that.
pub record Digits (f : ℕ → ℕ → List ℕ) (base : ℕ) (glyph : ℕ → ℕ) : Type 0 where
  pub none : (v : ℕ) → f 0 v ≡ []
  pub next : (w v : ℕ) → f (suc w) v ≡ f w (v / base) ++ (glyph (v % base) ∷ [])

module _ {f : ℕ → ℕ → List ℕ} {base : ℕ} {glyph : ℕ → ℕ} (d : Digits f base glyph) where
  pub digits_length : (w v : ℕ) → length (f w v) ≡ w
  digits_length zero v = ap length (d.none v)
  digits_length (suc w) v = simp (d.next w v, length-append, digits_length w (v / base)) (omega arith)

  -- As a loop writes them from the last one: the first i are to come.
  pub digits_less : (w : List ℕ) (at : ℕ) (b : List ℕ) (i x : ℕ) → 0 < i → at + i ≤ length b → w ≡ over at (f i x) b
      → w ≡ over at (f (i - 1) (x / base)) (set b (at + (i - 1)) (glyph (x % base)))
  digits_less w at b zero x h k e = absurd (not-suc-le-zero h)
  digits_less w at b (suc i) x h k e =
      let l : at + length (f i (x / base)) < length b = rw digits_length (omega arith) in
      let j : suc i - 1 ≡ i = omega arith in
      let o = e ∙ ap (λ (xs : List ℕ). over at xs b) (d.next i x) ∙ over_last at (f i (x / base)) (glyph (x % base)) b l in
      rw j (rw (digits_length i (x / base)) at o)

pub be_digits : Digits be 256 (λ (x : ℕ). x)
unfolding be
be_digits = record { none = λ v. refl; next = λ w v. refl }

pub length_be : (w v : ℕ) → length (be w v) ≡ w
length_be = digits_length be_digits

-- The last byte of a number, as a loop writes it; and none is left.
pub over_be : (at i x : ℕ) (b : List ℕ) → 0 < i → at + i ≤ length b → over at (be (i - 1) (x / 256)) (set b (at + (i - 1)) (x % 256)) ≡ over at (be i x) b
over_be at i x b h k = sym (digits_less be_digits (over at (be i x) b) at b i x h k refl)

pub over_be_none : (at i x : ℕ) (b : List ℕ) → i ≤ 0 → over at (be i x) b ≡ b
over_be_none at i x b h =
    let z : i ≡ 0 = omega arith in
    rw (z, be_digits.none x) (over_none at b)

-- for code that writes one piece behind another
pub ruleset pieces = (common_steps, over_append, over_cons, length_be)
