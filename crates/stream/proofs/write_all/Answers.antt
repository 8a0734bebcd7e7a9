use Rattle.std.proofs.Common.{arith}
use Rattle.stream.proofs.Left.{wrote_more}
use Rattle.stream.proofs.write_all.Goals as goal

pub loop-preserved : goal.loop-preserved
loop-preserved g c =
    let l = c.loop in
    let reached = rw c.in-Some.is at c.in_ok-n.ensures.reached in
    let bytes = rw c.in-Some.is at c.in_ok-n.ensures.bytes in
    (reached.1, λ h. absurd (omega arith), wrote_more _ _ _ c.args.out.now l.done c.in-Some.n reached.0 l.invariant.2 bytes)
