use Rattle.std.proofs.Common.{◌≡◌, ◌+◌, length, drop}
use Rattle.places.specs.Places.{bit_at}
use Rattle.threshold.specs.Threshold.{runs, clauses_met, first_short}
use Rattle.threshold.proofs.judge_clauses.Given as goal

abbrev pub invariant-loop-i : goal.invariant-loop-i
invariant-loop-i l =
    (l.base + length l.rest ≡ 16) × (first_short (l.i + 1) (clauses_met (bit_at l.set) l.base (runs (drop l.i l.sizes) l.rest))
    ≡ first_short 1 (clauses_met (bit_at l.set) 0 (runs l.sizes l.weights)))
