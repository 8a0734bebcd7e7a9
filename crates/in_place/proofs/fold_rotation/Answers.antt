use mathlib.Core.Path.{◌∙◌}
use Rattle.in_place.specs.Steps.{state_at}
use Rattle.in_place.proofs.Folds.{list_packed, list_few, roll_stands, roll_took}
use Rattle.std.proofs.lemmas.Result.{err_from_is_err_and}
use Rattle.in_place.proofs.fold_rotation.Goals as goal

pub returns-in_err-list : goal.returns-in_err-list
returns-in_err-list c = let a = c.args in
    let p = err_from_is_err_and c.from_residual.result c.from_residual.ensures.1 in
    rw (p.1, p.2) (roll_stands a.state.now a.used.now (state_at a.state.now a.used.now a.sm) a.s.now a.m _ c.in_err-list.ensures)

pub roll-requires-clause-list_value : goal.roll-requires-clause-list_value
roll-requires-clause-list_value c = list_packed _ _ c.in_ok-list.ensures

pub roll-requires-clause-count_bound : goal.roll-requires-clause-count_bound
roll-requires-clause-count_bound c = list_few _ _ c.in_ok-list.ensures

pub returns : goal.returns
returns c = let a = c.args in
    c.roll.ensures ∙ roll_took a.state.now a.used.now (state_at a.state.now a.used.now a.sm) a.s.now a.m _ c.in_ok-list.ensures
