use mathlib.Core.Path.{◌∙◌, sym, ap}
use Rattle.std.proofs.lemmas.Result.{err_from_is_err_and}
use Rattle.answer.specs.declared.Answer.{Answer}
use Rattle.state.specs.State.{holding}
use Rattle.ingest.specs.Judgement.{settled, judgement, answer_to, next_state}
use Rattle.ingest.proofs.Laws.{refuses_as, holder_stops, event_stops, shaped_well, clean_judgement}
use Rattle.ingest.proofs.next.Goals as goal

pub returns-in_err-of_holder : goal.returns-in_err-of_holder
unfolding answer_to
returns-in_err-of_holder c = λ before.
    let a = c.args in
    let p = err_from_is_err_and c.from_residual.result c.from_residual.ensures.1 in
    rw (p.1, p.2) (refuses_as before _ _ _ (holder_stops a.h a.e (judgement a.h a.e) _ c.in_err-of_holder.ensures))

pub returns-in_err-of_event : goal.returns-in_err-of_event
unfolding answer_to
returns-in_err-of_event c = λ before.
    let a = c.args in
    let r = c.from_residual-in_err-of_event in
    let p = err_from_is_err_and r.result r.ensures.1 in
    rw (p.1, p.2) (refuses_as before _ _ _ (event_stops a.h a.e (judgement a.h a.e) c.in_ok-of_holder.ensures _ c.in_err-of_event.ensures))

pub returns : goal.returns
unfolding answer_to
returns c = λ before.
    let a = c.args in
    c.judge.ensures before
    ∙ ap (λ (x : Answer). settled before x (holding (next_state a.h.state a.e))) (shaped_well a.h a.e (judgement a.h a.e) c.in_ok-of_holder.ensures c.in_ok-of_event.ensures (clean_judgement a.h a.e))
