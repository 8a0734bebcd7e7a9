use native.Mathlib.Omega.{arith}
use Rattle.wire.proofs.Laws.{run_more, run_over}
use Rattle.wire.proofs.same_raw.Goals as goal

pub loop-i-preserved : goal.loop-i-preserved
loop-i-preserved c = let a = c.args in
    run_more 64 a.s.now a.p a.q c.loop-i.i (omega arith) (omega arith) c.loop-i.same c.loop-i.invariant c.loop-i-test.true

pub returns : goal.returns
returns c = let a = c.args in
    run_over 64 a.s.now a.p a.q c.loop-i.i (omega arith) (omega arith) c.loop-i.same c.loop-i.invariant c.loop-i-test.false
