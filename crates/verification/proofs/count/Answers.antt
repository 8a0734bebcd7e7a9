use Rattle.std.proofs.Common.{arith, sym, ◌∙◌}
use Rattle.verification.proofs.Laws.{walk_other, walk_copy, walk_first, front_in, front_at}
use Rattle.verification.proofs.count.Goals as goal

pub each-preserved-then-is_copy : goal.each-preserved-then-is_copy
each-preserved-then-is_copy c = let a = c.args in let e = c.each in let at = a.l.at in
    let here = c.each-test.true in
    walk_copy at e.i e.set (omega arith) (front_in at _ e.i here) e.invariant.1 _ (front_at at _ e.i here) a.keys a.next e.c e.invariant.0
    c.loop-j.j c.loop-j-test.true (sym c.is_copy.ensures ∙ c.if-is_copy.true)

pub loop-j-preserved : goal.loop-j-preserved
loop-j-preserved c = let e = c.each in let at = c.args.l.at in
    let here = c.each-test.true in
    walk_other at e.i e.set (omega arith) (front_in at _ e.i here) e.invariant.1 _ (front_at at _ e.i here) c.loop-j.j c.loop-j-test.true
    (sym c.is_copy.ensures ∙ c.if-is_copy.false) c.loop-j.invariant

pub each-preserved : goal.each-preserved
each-preserved c = let a = c.args in let e = c.each in let at = a.l.at in
    let here = c.each-test.true in
    let w = walk_first at e.i e.set (omega arith) (front_in at _ e.i here) e.invariant.1 _ (front_at at _ e.i here) a.keys a.next e.c e.invariant.0
    c.loop-j.j c.loop-j-test.false c.loop-j.auto.j-end c.loop-j.invariant in
    (c.counted_with-c.ensures ∙ w.0, c.with-set.ensures ∙ w.1)
