use Rattle.std.proofs.Common.{rules, arith}
use Rattle.stream.proofs.Left.{filled_more, filled_end}
use Rattle.stream.proofs.Laws.{taken_less}
use Rattle.stream.proofs.fill.Goals as goal

pub loop-preserved : goal.loop-preserved
loop-preserved g c =
    let l = c.loop in
    let reached = rw c.in-Some.is at c.in_ok-n.ensures.reached in
    let bytes = rw c.in-Some.is at c.in_ok-n.ensures.bytes in
    let same = c.read_some.ensures.window_unchanged in
    (omega (arith, reached), omega (arith, reached), search (rules, taken_less), filled_more _ _ _ l.window c.read_some.new.window c.args.have l.to (omega arith) (omega arith) c.read_some.auto.window same l.invariant.3 c.in-Some.n reached.0 bytes)

pub returns-in_default-clause-bytes : goal.returns-in_default-clause-bytes
returns-in_default-clause-bytes g c =
    let l = c.loop in
    let bytes = rw c.in_default.is at c.in_ok-n.ensures.bytes in
    let same = c.read_some.ensures.window_unchanged in
    (filled_end _ _ _ l.window c.read_some.new.window c.args.have l.to (omega arith) (omega arith) c.read_some.auto.window same l.invariant.3 bytes.0, λ i j. bytes.1 (omega arith))
