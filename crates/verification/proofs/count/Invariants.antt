-- Before the signature at i the places are those of the first i; none before position j is a copy of it.
use Rattle.std.proofs.Common.{◌≡◌, false}
use Rattle.std.proofs.Math.ListN.{take}
use Rattle.lists.specs.Lists.{any}
use Rattle.verification.specs.Verification.{same_wire, counted_of}
use Rattle.verification.proofs.Laws.{firsts_in}
use Rattle.verification.proofs.count.Given as goal

abbrev pub invariant-loop-j : goal.invariant-loop-j
invariant-loop-j l = any (same_wire l.s) (take l.j l.fn.l.at) ≡ false

abbrev pub invariant-each : goal.invariant-each
invariant-each l = (l.c ≡ counted_of l.keys l.next (take l.i l.fn.l.at)) × (l.set ≡ firsts_in l.fn.l.at l.i)
