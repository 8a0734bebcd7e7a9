use Rattle.std.proofs.Common.{rules, arith, ◌-◌}
use Rattle.stream.proofs.Laws.{part_length}
use Rattle.stream.proofs.Left.{skipped_more}
use Rattle.stream.proofs.skip.Goals as goal

pub loop-preserved : goal.loop-preserved
loop-preserved g c =
    let l = c.loop in
    let (bs, brought, count) = l.invariant.1 in
    let reached = rw c.in-Some.is at c.in_ok-n.ensures.reached in
    let bytes = rw c.in-Some.is at c.in_ok-n.ensures.bytes in
    (search rules, skipped_more _ _ _ bs l.left c.args.count brought count _ (c.in-Some.n - c.args.from) (part_length _ _ _ reached.0 (omega (arith, reached))) (omega (arith, reached)) bytes)
