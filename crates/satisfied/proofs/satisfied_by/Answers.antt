use Rattle.std.proofs.Common.{arith, ◌≡◌, ◌∙◌}
use Rattle.std.proofs.lemmas.Grind.{common_steps}
use Rattle.threshold.specs.Threshold.{shape_of}
use Rattle.threshold.proofs.Laws.{weights_16}
use Rattle.satisfied.proofs.Laws.{of_set, by_places}
use Rattle.satisfied.proofs.satisfied_by.Goals as goal

pub returns-then-t-ne0 : goal.returns-then-t-ne0
returns-then-t-ne0 c =
    let t = c.args.t in
    let ps = c.args.ps.now in
    let w = weights_16 t _ c.well_formed.0 in
    let g : shape_of t ≡ 0 = grind (arith, common_steps) in
    of_set t ps 0 _ _ w c.set_of.ensures c.judge.ensures ∙ by_places t ps w g c.if-t-ne0.true
