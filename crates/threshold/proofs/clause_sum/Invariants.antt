use Rattle.std.proofs.Common.{◌≡◌, ◌+◌, drop}
use Rattle.places.specs.Places.{bit_at}
use Rattle.weight.specs.Weight.{no_sum}
use Rattle.threshold.specs.Threshold.{sum_from}
use Rattle.threshold.proofs.clause_sum.Given as goal

abbrev pub invariant-loop-k : goal.invariant-loop-k
invariant-loop-k l = sum_from (bit_at l.set) (l.base + l.k) l.sum (drop l.k l.clause) ≡ sum_from (bit_at l.set) l.base no_sum l.clause
