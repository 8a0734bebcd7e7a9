use mathlib.Core.Path.{◌∙◌}
use native.Mathlib.Omega.{arith}
use lib.ListN.{drop, length-drop}
use Rattle.std.proofs.lemmas.List.{take_all}
use Rattle.cursor.proofs.Laws.{first_had}
use Rattle.cursor.proofs.array_at.Goals as goal

pub returns-in_err-get : goal.returns-in_err-get
returns-in_err-get g c = rw c.from_residual.ensures (omega (arith, c.in_err-get.ensures.lookup))

pub returns : goal.returns
returns g c =
    let p = c.in_ok-get.ensures.lookup.0 in
    let e = p.2 ∙ take_all _ (drop c.args.at c.args.s.now) (simp length-drop (omega arith)) in
    first_had g.row.N c.args.s.now c.args.at c.in_ok-get.field-0.now e p.3 c.first_chunk.result c.first_chunk.ensures.cases
