use Rattle.std.proofs.Common.{◌∙◌}
use Rattle.lent_receipts.proofs.Laws.{unlike_next, copy_step, first_step}
use Rattle.lent_receipts.proofs.receipted_by.Goals as goal
use Rattle.lent_receipts.proofs.receipted_by.Goals.{else-loop-j-test, then-loop-j-test+then-is_copy}

pub loop-j-preserved : goal.loop-j-preserved
loop-j-preserved c = let a = c.args in let i = c.loop-i in let j = c.loop-j in
    (j.invariant.0, unlike_next a.witnesses a.receipts.now c.if-receipts-gt48.false i.i c.loop-i-test.true i.invariant j.j c.loop-j-test.true j.invariant.1 c.if-is_copy.ensures)

pub loop-i-preserved : goal.loop-i-preserved
loop-i-preserved c = let a = c.args in let i = c.loop-i in let j = c.loop-j in
    c.step-t.ensures
    ∙ elim c.loop-j-test.branch [
      | else-loop-j-test w ↦
          first_step a.witnesses a.receipts.now c.if-receipts-gt48.false i.i c.loop-i-test.true i.invariant j.j c.loop-j-test.place (w.place-is ∙ j.invariant.0)
          w.loop-j-test.false j.auto.j-end j.invariant.1
      | then-loop-j-test+then-is_copy w ↦
          copy_step a.witnesses a.receipts.now c.if-receipts-gt48.false i.i c.loop-i-test.true i.invariant j.j c.loop-j-test.place w.place-is
          w.loop-j-test.true w.if-is_copy.ensures
    ]
