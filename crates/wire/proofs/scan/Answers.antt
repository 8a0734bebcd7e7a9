use mathlib.Core.Path.{sym, ◌∙◌}
use Rattle.cursor.proofs.Laws.{runs_more}
use Rattle.wire.specs.Wire.{place_at}
use Rattle.wire.proofs.Laws.{place_got}
use Rattle.wire.proofs.scan.Goals as goal

pub loop-preserved : goal.loop-preserved
loop-preserved c =
    let e = place_got c.args.s.now c.loop.next (sym c.shaped.ensures ∙ c.if-not-shaped.false) in
    runs_more (place_at c.args.s.now) _ c.loop.counter c.loop.next _ _ _ c.loop-test.true e c.loop.invariant
