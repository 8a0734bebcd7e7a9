use Rattle.cursor.proofs.Laws.{raw_had, raw_missing}
use Rattle.cursor.proofs.read.Goals as goal

pub returns-in_err-part : goal.returns-in_err-part
returns-in_err-part g c = rw c.from_residual.ensures (raw_missing g.row.N c.args.s.now c.args.at c.in_err-part.ensures)

pub returns : goal.returns
returns g c = let p = c.in_ok-part.ensures in rw p.1 (raw_had g.row.N c.args.s.now c.args.at p.0)
