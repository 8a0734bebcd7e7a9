-- What the calls tell beside what in_place leaves: the details as words, a record's length, and whether a threshold is attainable.
use Rattle.std.specs.Prelude.{ℕ, List, [], ◌∷◌, false}
use Rattle.answer.specs.declared.Answer.{Answer}
use Rattle.threshold.specs.declared.Threshold.{Threshold}
use Rattle.layout.specs.Records.{first_of, next_in}
use Rattle.format.specs.Parse.{Parse, got, bad, ◌>>=◌, ended}
use Rattle.format.specs.Fields.{threshold_at}
use Rattle.attainable.specs.Attainable.{Attained, attainable_by, attained}

-- ---- Details: a and b, each as its high and its low word
abbrev pub words : Answer → List ℕ
words x = x.a.high ∷ x.a.low ∷ x.b.high ∷ x.b.low ∷ []

-- ---- length: how many bytes the first record takes, refused or not; all of them where it is cut short
unfoldable pub length_in : List ℕ → ℕ
length_in s = next_in s (first_of s)

-- ---- attainable: a threshold as it stands in a record, and nothing behind it
unfoldable pub threshold_alone : List ℕ → ℕ → Parse Threshold
threshold_alone s = do
  t ← threshold_at s
  ended s t

abbrev pub attainable_read : ℕ → Parse Threshold → Attained
attainable_read keys (got t n) = attainable_by t keys
attainable_read keys (bad r) = attained r false

unfoldable pub attainable_in : List ℕ → ℕ → Attained
attainable_in s keys = attainable_read keys (threshold_alone s 0)
