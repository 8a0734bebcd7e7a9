use mathlib.Core.Path.{◌∙◌}
use Rattle.std.proofs.lemmas.Result.{err_from_is_err_and}
use Rattle.ingest.proofs.Laws.{refuses_as, goes_as, interact_lists}
use Rattle.ingest.proofs.interaction.Goals as goal

pub returns-in_err-interact : goal.returns-in_err-interact
returns-in_err-interact c = λ before.
    let p = err_from_is_err_and c.from_residual.result c.from_residual.ensures.1 in
    rw (p.1, p.2) (refuses_as before _ _ _ (c.in_err-interact.ensures ∙ interact_lists c.args.s c.args.e _ c.gather-v.ensures))

pub returns : goal.returns
returns c = λ before. goes_as before _ _ _ (c.in_ok-interact.ensures ∙ interact_lists c.args.s c.args.e _ c.gather-v.ensures) c.step.ensures
