use native.Mathlib.Omega.{arith}
use Rattle.wire.proofs.Laws.{list_other}
use Rattle.wire.proofs.copied.Goals as goal

pub loop-j-preserved : goal.loop-j-preserved
loop-j-preserved c = let a = c.args in
    list_other a.s.now a.at a.i a.set c.requires.set_value _ c.loop-j.j c.loop-j-test.true (omega arith) c.loop-j.invariant c.is_copy.ensures c.if-is_copy.false
