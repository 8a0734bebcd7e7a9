-- All places below a key count, as a set and as a list. Assumes nothing.
use mathlib.Core.Path.{◌≡◌, refl, sym, ◌∙◌, ap}
use mathlib.Core.List.{◌∷◌, []}
use mathlib.Core.Bool.{Bool, true}
use Prim.Native.Nat.{ℕ, zero, suc, ◌<◌, ◌≤◌}
use native.Mathlib.Omega.{arith}
use lib.ListN.{length, length-append}
use borrow.Author.Tests.{eq-eqb, le-leb}
use Rattle.places.specs.Places.{chosen, among, set_of, bit_at, cut_to}
use Rattle.places.proofs.Laws.{below, bit_set, cut-set, among-chosen}
use Rattle.threshold.specs.declared.Threshold.{Threshold}
use Rattle.threshold.specs.Threshold.{Judgement, shape_of, judged, is_met}
use Rattle.threshold.proofs.Laws.{judged-same}
use Rattle.attainable.specs.Attainable.{all_places, attained, attainable_by}

all-length : (keys : ℕ) → length (all_places keys) ≡ keys
unfolding chosen
all-length zero = refl
all-length (suc keys) = rw (length-append (all_places keys) (keys ∷ []), all-length keys) (omega arith)

-- 16 ones are the set of all places
all_ones : 65535 ≡ set_of 16 (λ _. true)
unfolding set_of
all_ones = refl

in_set : (keys k : ℕ) → k < 16 → bit_at (cut_to keys 65535) k ≡ among (all_places keys) k
in_set keys k l =
    ap (λ (s : ℕ). bit_at (cut_to keys s) k) all_ones ∙ ap (λ (s : ℕ). bit_at s k) (cut-set keys (λ _. true))
    ∙ bit_set 16 (below keys (λ _. true)) k l ∙ sym (among-chosen keys (λ _. true) k)

module _ (t : Threshold) (keys : ℕ) where
  pub by_all : (set : ℕ) (j : Judgement) (b : Bool) → length t.weights ≡ 16 → shape_of t ≡ 0 → keys ≤ 16
      → set ≡ cut_to keys 65535 → j ≡ judged t keys (bit_at set) → b ≡ is_met j → attained 0 b ≡ attainable_by t keys
  unfolding attainable_by
  by_all set j b w e h s d m =
      let same : judged t keys (bit_at (cut_to keys 65535)) ≡ judged t keys (among (all_places keys)) =
      judged-same (bit_at (cut_to keys 65535)) (among (all_places keys)) (in_set keys) t keys (omega (arith, w)) in
      rw (eq-eqb (shape_of t) 0 e, le-leb keys 16 h, all-length keys, ← same, ← s, ← d, m)
