-- Document 02, request 2: what people may read from the number that names a clause, and from b of 27 and 28.
use Rattle.std.specs.Prelude.{ℕ, ◌-◌, ◌≤◌, ◌<◌, ◌≡◌, ◌⊎◌, List, Bool, true, false, length, get_or}
use Rattle.answer.specs.declared.Answer.{Answer}
use Rattle.answer.specs.Answer.{refused}
use Rattle.places.specs.Places.{among}
use Rattle.threshold.specs.declared.Threshold.{Threshold}
use Rattle.threshold.specs.Threshold.{is_simple, shape_of, clauses_of, clauses_met, judged_by, clause_named, satisfied}
use Rattle.satisfied.specs.Satisfied.{rising}

-- which clauses a set of places satisfies; and of one of them, "counted from 1"
abbrev pub by_clause : Threshold → List ℕ → List Bool
by_clause t places = clauses_met (among places) 0 (clauses_of t)

abbrev pub clause_met : Threshold → List ℕ → ℕ → Bool
clause_met t places number = get_or (by_clause t places) (number - 1) false

-- "the first unsatisfied clause, counted from 1": there is such a clause, it is not satisfied, and every one before it is
abbrev pub FirstUnsatisfied : Threshold → List ℕ → ℕ → Type 0
FirstUnsatisfied t places number =
    (1 ≤ number) × ((number ≤ length (by_clause t places)) × ((clause_met t places number ≡ false) × ((k : ℕ) → 1 ≤ k → k < number → clause_met t places k ≡ true)))

-- "none to name (satisfied, a simple threshold, no clauses ..)"
abbrev pub NoneToName : Threshold → List ℕ → Type 0
NoneToName t places = (satisfied t places ≡ true) ⊎ ((is_simple t ≡ true) ⊎ (t.clauses ≡ 0))

-- ".. or a list not strictly rising", or a struct of bad shape
abbrev pub NoneToNameIn : Threshold → List ℕ → Type 0
NoneToNameIn t ps = NoneToName t ps ⊎ ((rising ps ≡ false) ⊎ (shape_of t ≡ 0 → ⊥))

-- what a number tells: 0 exactly where there is none to name, and any other the first unsatisfied clause
abbrev pub Tells : Type 0 → Threshold → List ℕ → ℕ → Type 0
Tells none t places number = ((number ≡ 0 → none) × (none → number ≡ 0)) × ((number ≡ 0 → ⊥) → FirstUnsatisfied t places number)

-- ---- "b of 27 and 28 is this number": what a refusal of a set of places tells. Nobody has satisfied it, so 0 leaves "a simple
-- threshold, no clauses".
abbrev pub Refuses : ℕ → Threshold → List ℕ → Answer → Type 0
Refuses which t places x =
    (x ≡ refused which (length places) (clause_named (judged_by t places))) × Tells ((is_simple t ≡ true) ⊎ (t.clauses ≡ 0)) t places (clause_named (judged_by t places))
