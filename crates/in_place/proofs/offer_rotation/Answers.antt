use mathlib.Core.Path.{◌∙◌}
use Rattle.std.proofs.lemmas.Bool.{not-false}
use Rattle.in_place.specs.Steps.{state_at}
use Rattle.in_place.proofs.Answers.{rotation_took}
use Rattle.in_place.proofs.offer_rotation.Goals as goal

pub returns : goal.returns
returns c = let a = c.args in
    c.roll.ensures ∙ rotation_took a.state.now a.used.now (state_at a.state.now a.used.now a.sm) (not-false a.sm.last.transferable c.if-not-sm.false) a.s.now a.m _ c.in_ok-list.ensures
