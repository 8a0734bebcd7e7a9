use mathlib.Core.Path.{◌∙◌}
use Rattle.std.proofs.lemmas.Bool.{not-false}
use Rattle.in_place.specs.Steps.{state_at}
use Rattle.in_place.proofs.Answers.{interaction_took}
use Rattle.in_place.proofs.offer_interaction.Goals as goal

pub returns : goal.returns
returns c = let a = c.args in
    c.step.ensures ∙ interaction_took a.state.now a.used (state_at a.state.now a.used a.sm) (not-false a.sm.last.transferable c.if-not-sm.false) a.s.now a.m c.in_ok-judge_interaction.ensures
