use mathlib.Core.Path.{sym, ◌∙◌}
use native.Mathlib.Omega.{arith}
use Rattle.wire.proofs.Laws.{next_more, firsts_with}
use Rattle.wire.proofs.count.Goals as goal

pub loop-i-preserved : goal.loop-i-preserved
loop-i-preserved c = let a = c.args in
    let e = sym c.copied.ensures ∙ c.if-copied.false in (
      next_more a.keys a.next a.s.now a.l.first c.loop-i.i c.loop-i.c c.loop-i.invariant.0 _ _ c.claim_at.ensures c.counted_claim-c.ensures e,
      c.with-set.ensures ∙ firsts_with a.s.now a.l.first c.loop-i.i c.loop-i.set c.loop-i.invariant.1 (omega arith) e,
    )
