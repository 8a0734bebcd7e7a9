use Rattle.std.proofs.Common.{◌≡◌, leb, drop}
use Rattle.satisfied.proofs.Laws.{named}
use Rattle.satisfied.proofs.names_at_least.Given as goal

abbrev pub invariant-loop-i : goal.invariant-loop-i
invariant-loop-i l = leb l.left (named (drop l.i l.ps)) ≡ leb l.need (named l.ps)
