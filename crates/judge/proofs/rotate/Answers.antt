use Rattle.std.proofs.lemmas.Result.{err_from_is_err_and}
use Rattle.std.proofs.Common.{arith}
use Rattle.rules.proofs.Laws.{change_stops}
use Rattle.judge.proofs.Laws.{opening_stops}
use Rattle.judge.proofs.rotate.Goals as goal

pub returns-in_err-rotation_keys : goal.returns-in_err-rotation_keys
returns-in_err-rotation_keys c =
    let r = c.from_residual in
    let p = err_from_is_err_and r.result r.ensures.1 in
    rw (p.1, p.2) (change_stops _ _ _ (grind (arith, opening_stops)))
