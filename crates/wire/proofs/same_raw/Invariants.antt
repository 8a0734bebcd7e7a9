use Rattle.std.specs.Prelude.{◌≡◌, take, drop}
use Rattle.lists.specs.Lists.{both, same_numbers}
use Rattle.wire.proofs.Laws.{left}
use Rattle.wire.proofs.same_raw.Given as goal

abbrev pub invariant-loop-i : goal.invariant-loop-i
invariant-loop-i l = same_numbers (take 64 (drop l.p l.s)) (take 64 (drop l.q l.s)) ≡ both l.same (left 64 l.s l.p l.q l.i)
