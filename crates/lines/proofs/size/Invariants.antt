use Rattle.std.proofs.Common.{◌≡◌, ◌+◌, ◌-◌, length}
use Rattle.lines.specs.Lines.{numeral}
use Rattle.lines.proofs.size.Given as goal

abbrev pub invariant-loop-k : goal.invariant-loop-k
invariant-loop-k l = length (numeral l.base l.most l.n) ≡ l.k + length (numeral l.base (l.most - l.k) l.rest)
