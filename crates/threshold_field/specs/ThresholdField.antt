-- A threshold by its places, and the one that stands there. proofs/Laws has that the two together are format's `threshold_at`.
use Rattle.std.specs.Prelude.{ℕ, zero, suc, ◌+◌, ◌*◌, ◌≤◌, List, Result, Ok, Err, leb, length, take, drop, get_or}
use Rattle.lists.specs.Lists.{pick, padded}
use Rattle.answer.specs.declared.Refusal.{Refusal}
use Rattle.weight.specs.declared.Weight.{Weight}
use Rattle.threshold.specs.declared.Threshold.{Threshold}
use Rattle.format.specs.Parse.{Parse, got, bad, bind, ◌>>=◌, byte_at, be_from, num_at}
use Rattle.cursor.specs.Spans.{many_of}
use Rattle.threshold_field.specs.declared.Marks.{Marks}

-- a total that was had is at most 16
abbrev pub Small : Result (ℕ × ℕ) Refusal → Type 0
Small (Ok p) = p.0 ≤ 16
Small (Err r) = Unit

-- n size bytes, behind sizes that come to `sum`: what all come to, or 4 "at the size byte that passes 16"
unfoldable pub total_at : List ℕ → ℕ → ℕ → ℕ → Parse ℕ
total_at s zero sum at = got sum at
total_at s (suc n) sum at = bind (byte_at s at) (λ z p. pick (leb (sum + z) 16) (total_at s n (sum + z) p) (bad 4))

-- k bytes, whatever they are
unfoldable pub pass_at : {A : Type 0} → A → ℕ → List ℕ → ℕ → Parse A
pass_at a k s at = pick (leb (at + k) (length s)) (got a (at + k)) (bad 3)

abbrev pub simple_marks : ℕ → Marks
simple_marks n = record { tag = 0; simple = n; clauses = 0; sizes = 0; total = 0; weights = 0 }

abbrev pub weighted_marks : ℕ → ℕ → ℕ → ℕ → Marks
weighted_marks n sizes total weights = record { tag = 1; simple = 0; clauses = n; sizes = sizes; total = total; weights = weights }

-- at most 16 clauses, 4 at their count; their sizes; 16 bytes for each weight
unfoldable pub weighted_at : List ℕ → ℕ → Parse Marks
weighted_at s at =
    bind (byte_at s at) λ n p.
    pick (leb n 16) (bind (total_at s n 0 p) λ t w. pass_at (weighted_marks n p t w) (t * 16) s w) (bad 4)

unfoldable pub marks_as : ℕ → List ℕ → ℕ → Parse Marks
marks_as zero s = do
  n ← num_at 8 s
  got (simple_marks n)
marks_as (suc zero) s = weighted_at s
marks_as (suc (suc n)) s = λ at. bad 3

unfoldable pub marks_at : List ℕ → ℕ → Parse Marks
marks_at s = do
  tag ← byte_at s
  marks_as tag s

-- a weight: "numerator u64 and denominator u64"
abbrev pub byte_of : List ℕ → ℕ → ℕ
byte_of s at = get_or s at 0

unfoldable pub weight_of : List ℕ → ℕ → Weight
weight_of s at = record { num = be_from 0 (take 8 (drop at s)); den = be_from 0 (take 8 (drop (at + 8) s)) }

abbrev pub no_weight : Weight
no_weight = record { num = 0; den = 0 }

-- sizes and weights in arrays of 16; none where they are more than 16 or the bytes run out
abbrev pub sizes_of : List ℕ → ℕ → ℕ → List ℕ
sizes_of s n at = padded 16 0 (many_of (byte_of s) 1 16 s n at)

abbrev pub weights_of : List ℕ → ℕ → ℕ → List Weight
weights_of s n at = padded 16 no_weight (many_of (weight_of s) 16 16 s n at)

-- the threshold whose parts stand at the marks
abbrev pub threshold_of : List ℕ → Marks → Threshold
threshold_of s m =
    record {
      tag = m.tag;
      simple = m.simple;
      clauses = m.clauses;
      sizes = sizes_of s m.clauses m.sizes;
      weights = weights_of s m.total m.weights;
    }
