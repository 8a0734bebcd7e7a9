use mathlib.Core.Path.{sym}
use native.Mathlib.Omega.{arith}
use Rattle.cursor.proofs.Laws.{runs_more, runs_stop, runs-end, span_bad, span_got}
use Rattle.field.proofs.scan_list.Goals as goal

pub returns-in_default-scan_entry : goal.returns-in_default-scan_entry
returns-in_default-scan_entry c = sym (span_bad _ _ _ _ _ _ 3 (sym c.in-Some.ensures) (omega arith) (runs_stop _ _ c.loop-turn._turn c.loop-turn.p _ 3 (omega arith) (sym c.in_default-scan_entry.ensures) c.loop-turn.invariant))

pub loop-turn-preserved : goal.loop-turn-preserved
loop-turn-preserved c = runs_more _ _ c.loop-turn._turn c.loop-turn.p _ _ _ (omega arith) (sym c.in-Some-scan_entry.ensures) c.loop-turn.invariant

pub returns : goal.returns
returns c = sym (span_got _ _ _ _ _ _ _ (sym c.in-Some.ensures) (omega arith) (runs-end _ _ c.loop-turn._turn c.loop-turn.p _ (omega arith) c.loop-turn.invariant))
