use mathlib.Core.Path.{◌∙◌, ap}
use native.Mathlib.Omega.{arith}
use Rattle.answer.specs.declared.Answer.{Answer}
use Rattle.in_place.specs.Steps.{left}
use Rattle.in_place.proofs.Held.{parts_of, enough_body}
use Rattle.in_place.proofs.Folds.{fold_snapshot, fold_body}
use Rattle.in_place.proofs.fold_body.Goals as goal

pub returns-then-mark-eq-KS : goal.returns-then-mark-eq-KS
returns-then-mark-eq-KS c = let a = c.args in
    let e = ap (λ (x : Answer). left x a.state.now a.used.now) (c.of.ensures ∙ c.instead.ensures) ∙ fold_snapshot a.state.now a.used.now a.body.now a.mark c.if-mark-eq-KS.true in
    let facts = parts_of _ _ _ _ e in record { value = facts.0; state_after = facts.1.0; used_after = facts.1.1 }

pub fold_to-requires : goal.fold_to-requires
fold_to-requires c = let small = c.type_inv.body in
    enough_body c.args.body.now _ c.enough-end.ensures.result_value (λ i. omega (arith, small i))

pub returns : goal.returns
returns c = let a = c.args in
    let e = ap (λ (x : Answer). left x c.fold_to.new.state c.fold_to.new.used) c.of-2.ensures ∙ c.fold_to.ensures ∙ fold_body a.state.now a.used.now a.body.now a.mark c.if-mark-eq-KS.false _ c.enough-end.ensures.result_value in
    let facts = parts_of _ _ _ _ e in record { value = facts.0; state_after = facts.1.0; used_after = facts.1.1 }
