-- Values written one after another, and the bytes of a threshold. Assumes nothing.
--     each_..      a loop that writes values one after another
use mathlib.Core.Path.{◌≡◌}
use mathlib.Core.List.{List, ◌∷◌, ◌++◌, []}
use Prim.Native.Nat.{ℕ, ◌+◌, ◌≤◌, ◌<◌}
use lib.ListN.{length, take, drop, get_or, drop_of_length-le}
use lib.Seq.{drop-cons}
use native.Mathlib.Numerals.{add-one}
use borrow.Author.Tests.{eq-eqb, ne_eqb}
use Rattle.threshold.specs.declared.Threshold.{Threshold}
use Rattle.threshold.specs.Threshold.{sizes_of, weights_in}
use Rattle.writer.specs.Writing.{be, over, Wrote}
use Rattle.writer.proofs.Laws.{Left, fits, more, done}
use Rattle.snapshot.specs.Bytes.{each, counted, weight_bytes, threshold_bytes}

-- as the contracts of this crate say it
pub made : {xs b b' : List ℕ} {at q : ℕ} → q ≡ at + length xs → b' ≡ over at xs b → Wrote xs at b q b'
made e f = record { behind = e; bytes = f }

-- ---- As a loop writes values one after another: those from i on are to come.
module _ {A : Type 0} (f : A → List ℕ) (xs : List A) (i : ℕ) {all b₀ b : List ℕ} {at p : ℕ} (l : Left all at b₀ (each f (drop i xs)) p b) where
  each_next : (d : A) → i < length xs → Left all at b₀ (f (get_or xs i d) ++ each f (drop (i + 1) xs)) p b
  unfolding each
  each_next d h = let e : drop i xs ≡ get_or xs i d ∷ drop (i + 1) xs = rw (add-one, drop-cons xs i d h) in rw e at l

  pub each_fits : (d : A) → i < length xs → p + length (f (get_or xs i d)) ≤ length b
  each_fits d h = fits (f (get_or xs i d)) (each f (drop (i + 1) xs)) (each_next d h)

  pub each_more : {b' : List ℕ} {q : ℕ} (d : A) → i < length xs → q ≡ p + length (f (get_or xs i d)) → b' ≡ over p (f (get_or xs i d)) b
      → Left all at b₀ (each f (drop (i + 1) xs)) q b'
  each_more d h e g = more (f (get_or xs i d)) (each f (drop (i + 1) xs)) (each_next d h) (record { behind = e; bytes = g })

  pub each_done : length xs ≤ i → Wrote all at b₀ p b
  unfolding each
  each_done h = done (each f (drop i xs)) (rw (drop_of_length-le xs h)) l

-- ---- the bytes of a threshold, by its tag; `total` is how many weights there are
module _ (t : Threshold) where
  pub simple-bytes : t.tag ≡ 0 → threshold_bytes t ≡ (0 ∷ []) ++ be 8 t.simple
  unfolding threshold_bytes
  simple-bytes h = rw (eq-eqb t.tag 0 h)

  pub weighted-bytes : (total : ℕ) → (t.tag ≡ 0 → ⊥) → total ≡ weights_in t
      → threshold_bytes t ≡ (1 ∷ []) ++ (counted (sizes_of t) ++ each weight_bytes (take total t.weights))
  unfolding threshold_bytes
  weighted-bytes total h e = rw (ne_eqb t.tag 0 h, e)
