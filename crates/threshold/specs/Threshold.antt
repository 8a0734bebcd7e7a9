-- Thresholds, by document 01: "A threshold is tag 0 and a u64, or tag 1, a clause count byte, a size byte per clause, then
-- the weights as numerator u64 and denominator u64."
use Rattle.std.specs.Prelude.{ℕ, ◌+◌, List, [], ◌∷◌, Bool, true, false, not, Option, Some, None, Result, Ok, Err, eqb, leb, length, take, drop}
use Rattle.lists.specs.Lists.{pick, both, any, all, first_from}
use Rattle.answer.specs.declared.Answer.{Answer}
use Rattle.answer.specs.Answer.{refused, accepted, first_refusal}
use Rattle.weight.specs.declared.Weight.{Weight}
use Rattle.weight.specs.Weight.{weigh, no_sum, reaches_one, zero_weight}
use Rattle.places.specs.Places.{among}
use Rattle.threshold.specs.declared.Threshold.{Threshold}
use Rattle.threshold.specs.declared.Short.{Short}

abbrev pub is_simple : Threshold → Bool
is_simple t = eqb t.tag 0

-- the sizes of the clauses, how many weights they have, and the clauses themselves
abbrev pub sizes_of : Threshold → List ℕ
sizes_of t = take t.clauses t.sizes

unfoldable pub sum : List ℕ → ℕ
sum [] = 0
sum (n ∷ ns) = n + sum ns

abbrev pub weights_in : Threshold → ℕ
weights_in t = sum (sizes_of t)

unfoldable pub runs : List ℕ → List Weight → List (List Weight)
runs [] ws = []
runs (n ∷ ns) ws = take n ws ∷ runs ns (drop n ws)

abbrev pub clauses_of : Threshold → List (List Weight)
clauses_of t = runs (sizes_of t) t.weights

-- ---- Shape of the struct. "4 for a count above its limit (for weights, at the size byte that passes 16)"; "under tag 0
-- every clause place is unused, a clause count too; under tag 1 the simple number is"; an unused place that isn't zero is 3.
-- nothing is used from the clause s and the weight w on
abbrev pub rest_zero : Threshold → ℕ → ℕ → Bool
rest_zero t s w = both (all (eqb 0) (drop s t.sizes)) (all zero_weight (drop w t.weights))

unfoldable pub shape_of : Threshold → ℕ
shape_of t =
    pick (is_simple t) (pick (both (eqb t.clauses 0) (rest_zero t 0 0)) 0 3)
    (pick (eqb t.tag 1)
    (pick (both (leb t.clauses 16) (leb (weights_in t) 16))
    (pick (both (eqb t.simple 0) (rest_zero t t.clauses (weights_in t))) 0 3)
    4)
    3)

-- ---- "Threshold shape: Simple 0 is 23, above the key count 24. Weighted: no clauses 25, an empty clause 26, more weights
-- than keys 24." 24's details: required, keys.
abbrev pub at_most : ℕ → ℕ → Answer
at_most required keys = pick (leb required keys) accepted (refused 24 required keys)

abbrev pub simple_form : ℕ → ℕ → Answer
simple_form required keys = pick (eqb required 0) (refused 23 0 0) (at_most required keys)

unfoldable pub well_formed : Threshold → ℕ → Answer
well_formed t keys =
    pick (is_simple t)
    (simple_form t.simple keys)
    (pick (eqb t.clauses 0) (refused 25 0 0)
    (pick (any (eqb 0) (sizes_of t)) (refused 26 0 0) (at_most (weights_in t) keys)))

-- a struct entry: "Numbers 1 to 4 come before all others"
unfoldable pub check_well_formed : Threshold → ℕ → Answer
check_well_formed t keys = first_refusal (refused (shape_of t) 0 0 ∷ well_formed t keys ∷ [])

-- ---- The sum of a clause: weights at signed places are added, the others only looked at for a zero denominator.
-- the clause's places are k, k + 1, ..
unfoldable pub sum_from : (ℕ → Bool) → ℕ → Option Weight → List Weight → Option Weight
sum_from signed k s [] = s
sum_from signed k s (w ∷ ws) = sum_from signed (k + 1) (weigh (signed k) s w) ws

-- which clauses are satisfied: each owns the next run of places. An empty clause never is.
unfoldable pub clauses_met : (ℕ → Bool) → ℕ → List (List Weight) → List Bool
clauses_met signed base [] = []
clauses_met signed base (c ∷ cs) = reaches_one (sum_from signed base no_sum c) ∷ clauses_met signed (base + length c) cs

-- ---- Document 02, request 2: "The threshold judgement shall answer with the first unsatisfied clause, counted from 1, or 0
-- where there is none to name (satisfied, a simple threshold, no clauses, or a list not strictly rising)."
abbrev pub Judgement : Type 0
Judgement = Result (Unit {0}) Short

abbrev pub short : ℕ → Judgement
short k = Err (record { clause = k })

abbrev pub short_at : Option ℕ → Judgement
short_at (Some k) = short k
short_at None = Ok tt

-- the first clause has this number
abbrev pub first_short : ℕ → List Bool → Judgement
first_short number met = short_at (first_from not number met)

-- the judgement over a set of places: how many there are, and which
unfoldable pub judged : Threshold → ℕ → (ℕ → Bool) → Judgement
judged t count signed =
    pick (is_simple t)
    (pick (leb t.simple count) (Ok tt) (short 0))
    (pick (eqb t.clauses 0) (short 0) (first_short 1 (clauses_met signed 0 (clauses_of t))))

abbrev pub is_met : Judgement → Bool
is_met (Ok done) = true
is_met (Err s) = false

-- the number that names the clause
abbrev pub clause_named : Judgement → ℕ
clause_named (Ok done) = 0
clause_named (Err s) = s.clause

-- a list without repeats is a set of places
abbrev pub judged_by : Threshold → List ℕ → Judgement
judged_by t places = judged t (length places) (among places)

abbrev pub satisfied : Threshold → List ℕ → Bool
satisfied t places = is_met (judged_by t places)
