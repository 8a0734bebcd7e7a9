use mathlib.Core.Path.{◌∙◌, ap}
use Rattle.answer.specs.declared.Answer.{Answer}
use Rattle.in_place.specs.Steps.{left}
use Rattle.in_place.proofs.Held.{parts_of, parts_as}
use Rattle.in_place.proofs.Answers.{offer_short, offer_first}
use Rattle.in_place.proofs.offer.Goals as goal

pub returns-in_default : goal.returns-in_default
returns-in_default c = let a = c.args in
    let e = ap (λ (x : Answer). left x a.state.now a.used.now) (c.of.ensures ∙ c.instead.ensures) ∙ offer_short a.state.now a.used.now a.input.now c.in_default.ensures.result_value in
    let facts = parts_of _ _ _ _ e in record { value = facts.0; state_after = facts.1.0; used_after = facts.1.1 }

pub returns : goal.returns
returns c = let a = c.args in
    let e = offer_first a.state.now a.used.now a.input.now c.in-Some.mark c.in-Some.next c.in-Some.ensures.result_value in
    let facts = parts_as _ _ e _ _ _ c.offer_body.ensures.value c.offer_body.ensures.state_after c.offer_body.ensures.used_after in record { value = facts.0; state_after = facts.1.0; used_after = facts.1.1 }
