use mathlib.Core.Path.{◌∙◌, ap}
use Rattle.std.proofs.lemmas.Result.{err_from_is_err_and}
use Rattle.number.specs.declared.Number.{Number}
use Rattle.state.specs.State.{begun}
use Rattle.ingest.proofs.Laws.{refuses_as, goes_as, incept_is}
use Rattle.ingest.proofs.inception.Goals as goal

pub returns-in_err-incept : goal.returns-in_err-incept
returns-in_err-incept c = λ before.
    let p = err_from_is_err_and c.from_residual.result c.from_residual.ensures.1 in
    rw (p.1, p.2) (refuses_as before _ _ _ (c.in_err-incept.ensures ∙ incept_is c.args.e _ c.gather-v.ensures c.requires))

pub returns : goal.returns
returns c = λ before.
    goes_as before _ _ _ (c.in_ok-incept.ensures ∙ incept_is c.args.e _ c.gather-v.ensures c.requires)
    (c.begin.ensures ∙ ap (λ (n : Number). begun n c.args.e.head c.args.e.body) c.from_u64.ensures)
