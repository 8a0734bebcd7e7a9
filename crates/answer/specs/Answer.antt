-- Answers. "Details a and b are 0 unless named; the first named is a." The number 0 is 'accepted'.
use Rattle.std.specs.Prelude.{ℕ, List, [], ◌∷◌, Bool, eqb}
use Rattle.lists.specs.Lists.{pick}
use Rattle.number.specs.Number.{small}
use Rattle.answer.specs.declared.Answer.{Answer}

abbrev pub refused : ℕ → ℕ → ℕ → Answer
refused which a b = record { number = which; a = small a; b = small b }

abbrev pub accepted : Answer
accepted = refused 0 0 0

-- a check: a refusal where a fault is found, or unless all is good
abbrev pub refuse_if : Bool → Answer → Answer
refuse_if fault x = pick fault x accepted

abbrev pub refuse_unless : Bool → Answer → Answer
refuse_unless good x = pick good accepted x

abbrev pub passes : Answer → Bool
passes x = eqb x.number 0

-- "The checks in order": the first that refuses gives the answer
unfoldable pub first_refusal : List Answer → Answer
first_refusal [] = accepted
first_refusal (x ∷ xs) = pick (passes x) (first_refusal xs) x

-- the first number that is not 0: the shape of fields in order
unfoldable pub first_fault : List ℕ → ℕ
first_fault [] = 0
first_fault (n ∷ ns) = pick (eqb n 0) (first_fault ns) n
