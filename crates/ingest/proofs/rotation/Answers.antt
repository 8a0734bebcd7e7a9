use mathlib.Core.Path.{◌∙◌, ap}
use Rattle.std.proofs.lemmas.Result.{err_from_is_err_and}
use Rattle.items.specs.declared.Items.{Items}
use Rattle.state.specs.State.{rotated}
use Rattle.answer.specs.declared.Answer.{Answer}
use Rattle.rules.specs.Rules.{new_witnesses, changed}
use Rattle.ingest.proofs.Laws.{refuses_as, goes_as, rotate_lists, new_list}
use Rattle.ingest.proofs.rotation.Goals as goal

pub returns-in_err-witnesses : goal.returns-in_err-witnesses
returns-in_err-witnesses c = λ before.
    let a = c.args in
    let p = err_from_is_err_and c.from_residual.result c.from_residual.ensures.1 in
    let l = ap (λ (x : Answer). changed x (new_witnesses a.s a.e.body)) (rotate_lists a.s a.e _ c.gather-v.ensures) in
    rw (p.1, p.2) (refuses_as before _ _ _ (ap (λ (d : _). d.answer) (c.in_err-witnesses.ensures ∙ l)))

pub returns : goal.returns
returns c = λ before.
    let a = c.args in
    let l = ap (λ (x : Answer). changed x (new_witnesses a.s a.e.body)) (rotate_lists a.s a.e _ c.gather-v.ensures) in
    let n = new_list _ _ _ (c.in_ok-witnesses.ensures ∙ l) in
    goes_as before _ _ _ n.0 (c.rotate-2.ensures ∙ ap (λ (i : Items). rotated a.s a.e.head a.e.body i) n.1)
