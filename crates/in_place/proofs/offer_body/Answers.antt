use mathlib.Core.Path.{◌∙◌, ap}
use native.Mathlib.Omega.{arith}
use Rattle.answer.specs.declared.Answer.{Answer}
use Rattle.in_place.specs.Steps.{left}
use Rattle.in_place.proofs.Held.{parts_of, enough_body}
use Rattle.in_place.proofs.Answers.{offer_body}
use Rattle.in_place.proofs.offer_body.Goals as goal

pub offer_to-requires : goal.offer_to-requires
offer_to-requires c = let small = c.type_inv.body in
    enough_body c.args.body.now _ c.enough-end.ensures.result_value (λ i. omega (arith, small i))

pub returns : goal.returns
returns c = let a = c.args in
    let e = ap (λ (x : Answer). left x c.offer_to.new.state c.offer_to.new.used) c.of.ensures ∙ c.offer_to.ensures ∙ offer_body a.state.now a.used.now a.body.now a.mark _ c.enough-end.ensures.result_value in
    let facts = parts_of _ _ _ _ e in record { value = facts.0; state_after = facts.1.0; used_after = facts.1.1 }
