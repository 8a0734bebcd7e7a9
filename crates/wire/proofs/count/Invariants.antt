use Rattle.std.specs.Prelude.{◌≡◌}
use Rattle.cursor.specs.Spans.{list_of}
use Rattle.verification.specs.Verification.{counted_of}
use Rattle.wire.specs.Wire.{siger_of, firsts_from}
use Rattle.wire.proofs.count.Given as goal

abbrev pub invariant-loop-i : goal.invariant-loop-i
invariant-loop-i l = (l.c ≡ counted_of l.keys l.next (list_of (siger_of l.s) 76 l.i l.l.first)) × (l.set ≡ firsts_from l.s l.l.first l.i)
