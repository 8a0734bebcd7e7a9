use mathlib.Core.Path.{◌∙◌, sym, ap}
use Rattle.std.proofs.lemmas.Result.{err_from_is_err_and}
use Rattle.answer.specs.declared.Answer.{Answer}
use Rattle.state.specs.State.{holding}
use Rattle.ingest.specs.Judgement.{settled}
use Rattle.fold.specs.Fold.{foldable, fold_answer, fold_state}
use Rattle.fold.proofs.Laws.{clean_fold}
use Rattle.ingest.proofs.Laws.{refuses_as, holder_stops, event_stops, shaped_well}
use Rattle.fold.proofs.next.Goals as goal

pub returns-in_err-of_holder : goal.returns-in_err-of_holder
unfolding fold_answer
returns-in_err-of_holder c =
    let a = c.args in
    let p = err_from_is_err_and c.from_residual.result c.from_residual.ensures.1 in
    rw (p.1, p.2) (refuses_as a.before _ _ _ (holder_stops a.before a.e (foldable a.e.ilk a.before a.e) _ c.in_err-of_holder.ensures))

pub returns-in_err-of_event : goal.returns-in_err-of_event
unfolding fold_answer
returns-in_err-of_event c =
    let a = c.args in
    let r = c.from_residual-in_err-of_event in
    let p = err_from_is_err_and r.result r.ensures.1 in
    rw (p.1, p.2) (refuses_as a.before _ _ _ (event_stops a.before a.e (foldable a.e.ilk a.before a.e) c.in_ok-of_holder.ensures _ c.in_err-of_event.ensures))

pub returns : goal.returns
unfolding fold_answer
returns c =
    let a = c.args in
    c.fold_as.ensures
    ∙ ap (λ (x : Answer). settled a.before x (holding (fold_state a.before.state a.e))) (shaped_well a.before a.e (foldable a.e.ilk a.before a.e) c.in_ok-of_holder.ensures c.in_ok-of_event.ensures (clean_fold a.e.ilk a.before a.e))
