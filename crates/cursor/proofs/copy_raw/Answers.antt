use mathlib.Core.Path.{sym, ◌∙◌}
use Rattle.cursor.proofs.Laws.{raw-short, raw_got}
use Rattle.cursor.proofs.copy_raw.Goals as goal

pub returns-in-Some : goal.returns-in-Some
returns-in-Some g c = let p = c.in-Some.ensures in c.copy_from_slice.ensures.after ∙ p.1 ∙ sym (raw_got g.row.N c.args.s.now c.args.at p.0)

pub returns-in_default : goal.returns-in_default
returns-in_default g c = sym (raw-short g.row.N c.args.s.now c.args.at c.in_default.ensures)
