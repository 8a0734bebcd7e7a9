-- "`attainable`, given a threshold and a key count (above 16 is 4, after the threshold struct's own 3 or 4; 23 to 26 are not
-- looked at), says yes exactly when the set of all key places satisfies the threshold."
use Rattle.std.specs.Prelude.{ℕ, List, Bool, true, false, Result, Ok, Err, eqb, leb}
use Rattle.lists.specs.Lists.{pick}
use Rattle.places.specs.Places.{chosen}
use Rattle.threshold.specs.declared.Threshold.{Threshold}
use Rattle.threshold.specs.Threshold.{shape_of, satisfied}
use Rattle.answer.specs.declared.Refusal.{Refusal}
use Rattle.answer.specs.Refusal.{answer_of}

-- all places below a key count
abbrev pub all_places : ℕ → List ℕ
all_places keys = chosen keys (λ _. true)

-- the number is 0 where there is an answer, 3 or 4 where the question is ill-shaped; then `yes` is false
pub record Attained : Type 0 where
  pub number : ℕ
  pub yes : Bool

abbrev pub attained : ℕ → Bool → Attained
attained which b = record { number = which; yes = b }

unfoldable pub attainable_by : Threshold → ℕ → Attained
attainable_by t keys =
    pick (eqb (shape_of t) 0)
    (pick (leb keys 16) (attained 0 (satisfied t (all_places keys))) (attained 4 false))
    (attained (shape_of t) false)

-- what the call returns
abbrev pub attained_as : Result Bool Refusal → Attained
attained_as (Ok b) = attained 0 b
attained_as (Err r) = attained (answer_of r).number false
