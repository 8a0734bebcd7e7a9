-- Document 02, request 2, part by part: which clause a judgement names, and that 27 and 28 pass it on; said of the definitions
-- that the contracts cite.
use Rattle.std.specs.Prelude.{◌≡◌, true, List, [], ◌∷◌, Ok, ℕ, replicate}
use Rattle.answer.specs.Answer.{refused, accepted}
use Rattle.threshold.specs.declared.Threshold.{Threshold}
use Rattle.threshold.specs.Threshold.{short, clause_named}
use Rattle.authority.specs.Authority.{quorum, signed_by, exposed_by}
use Rattle.examples.specs.Starred.{◌/w◌, weighted, simple, entries, yes, no, signed}

-- "whether the teachers' clause or the pupils' clause is short": both of two teachers, two of three pupils
abbrev group : Threshold
group = weighted ((1 /w 2 ∷ 1 /w 2 ∷ []) ∷ (1 /w 2 ∷ 1 /w 2 ∷ 1 /w 2 ∷ []) ∷ [])

-- sixteen clauses of one key each, and all places but the last
abbrev sixteen : Threshold
sixteen = weighted (replicate 16 (1 /w 1 ∷ []))

abbrev fifteen : List ℕ
fifteen = 0 ∷ 1 ∷ 2 ∷ 3 ∷ 4 ∷ 5 ∷ 6 ∷ 7 ∷ 8 ∷ 9 ∷ 10 ∷ 11 ∷ 12 ∷ 13 ∷ 14 ∷ []

pub record Clauses : Type 0 where
  -- "the first unsatisfied clause, counted from 1"
  pub teachers : entries group (0 ∷ 2 ∷ 3 ∷ []) ≡ no 1
  pub pupils : entries group (0 ∷ 1 ∷ 4 ∷ []) ≡ no 2
  pub both_short : entries group (0 ∷ 2 ∷ []) ≡ no 1
  pub sixteenth : entries sixteen fifteen ≡ no 16
  pub empty_clause : entries (weighted ((1 /w 1 ∷ []) ∷ [] ∷ (1 /w 1 ∷ []) ∷ [])) (0 ∷ []) ≡ no 2
  -- "or 0 where there is none to name (satisfied, a simple threshold, no clauses, or a list not strictly rising)"
  pub satisfied : entries group (0 ∷ 1 ∷ 3 ∷ 4 ∷ []) ≡ yes
  pub satisfied_0 : clause_named (Ok tt) ≡ 0
  pub simple_0 : entries (simple 2) (0 ∷ []) ≡ no 0
  pub no_clauses_0 : entries (weighted []) (0 ∷ []) ≡ no 0
  pub not_rising_0 : entries group (1 ∷ 0 ∷ []) ≡ (short 0, short 2)
  pub twice_0 : entries group (0 ∷ 0 ∷ []) ≡ (short 0, short 1)
  -- "The signature and commitment counts pass it on: b of 27 and 28 is this number from now on."
  pub b_of_27 : quorum 27 group (0 ∷ 1 ∷ 4 ∷ []) ≡ refused 27 3 2
  pub b_of_27_simple : quorum 27 (simple 2) (0 ∷ []) ≡ refused 27 1 0
  -- one key has signed and shows the first of two commitments: the second one's clause is short, of the old next threshold
  pub own_met : signed_by (weighted ((1 /w 1 ∷ []) ∷ [])) 1 (signed 0 true ∷ []) ≡ accepted
  pub b_of_28 : exposed_by (weighted ((1 /w 1 ∷ []) ∷ (1 /w 1 ∷ []) ∷ [])) 1 2 (signed 0 true ∷ []) ≡ refused 28 1 2
