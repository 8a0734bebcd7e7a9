-- The witness threshold. "Witnesses 0 to 7 give 0, 1, 2, 3, 3, 4, 4, 5; 10 gives 7; 16 gives 11." 39's detail: witnesses; 40's: toad, witnesses.
use Rattle.std.specs.Prelude.{Result, Ok, Err, ℕ, ◌+◌, ◌-◌, ◌/◌, ◌^◌, min, max, Bool, eqb, ltb, leb}
use Rattle.lists.specs.Lists.{pick, both}
use Rattle.answer.specs.declared.Answer.{Answer}
use Rattle.answer.specs.declared.Refusal.{Refusal}
use Rattle.answer.specs.Answer.{refused, accepted}
use Rattle.answer.specs.Refusal.{answer_of}
use Rattle.toad.specs.declared.Toad.{Toad}

-- the answer, and the threshold where it is accepted; else threshold 0
pub record Taken : Type 0 where
  pub answer : Answer
  pub toad : Toad

abbrev pub taken : ℕ → Taken
taken n = record { answer = accepted; toad = record { 0 = n } }

abbrev pub not_taken : ℕ → ℕ → ℕ → Taken
not_taken which a b = record { answer = refused which a b; toad = record { 0 = 0 } }

-- what a call answers, with its threshold
abbrev pub taken_as : Result Toad Refusal → Taken
taken_as (Ok t) = record { answer = accepted; toad = t }
taken_as (Err r) = record { answer = answer_of r; toad = record { 0 = 0 } }

-- n / d rounded up
abbrev pub up : ℕ → ℕ → ℕ
up n d = (n + (d - 1)) / d

-- toad.rs: "min(n, ceil((n+f_floor+1)/2), ceil((n+f_ceil+1)/2))" with "f_floor = max(1, (n-1)/3) and f_ceil = max(1, ceil((n-1)/3))"
abbrev pub majority : ℕ → ℕ → ℕ
majority n f = up (n + f + 1) 2

unfoldable pub ample_of : ℕ → ℕ
ample_of n =
    pick (eqb n 0) 0
    (min n (min (majority n (max 1 ((n - 1) / 3))) (majority n (max 1 (up (n - 1) 3)))))

abbrev pub ample_answer : ℕ → Taken
ample_answer n = pick (ltb (ample_of n) (2 ^ 32)) (taken (ample_of n)) (not_taken 39 n 0)

-- "0 iff witness_count == 0, else 1..=witness_count"
abbrev pub in_range : ℕ → ℕ → Bool
in_range toad witnesses = pick (eqb witnesses 0) (eqb toad 0) (both (leb 1 toad) (leb toad witnesses))

abbrev pub exact_answer : ℕ → ℕ → Taken
exact_answer toad witnesses = pick (in_range toad witnesses) (taken toad) (not_taken 40 toad witnesses)

-- "31 is every misfit of toad but zero with witnesses (30)"; 30's detail: witnesses; 31's: toad, witnesses. No witnesses and
-- toad 0 fit, so a misfit of zero has witnesses.
unfoldable pub witness_threshold : ℕ → ℕ → Answer
witness_threshold toad witnesses =
    pick (in_range toad witnesses) accepted (pick (eqb toad 0) (refused 30 witnesses 0) (refused 31 toad witnesses))
