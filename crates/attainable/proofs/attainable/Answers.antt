use Rattle.std.proofs.Common.{arith, ◌≡◌, ◌∙◌}
use Rattle.std.proofs.lemmas.Grind.{common_steps}
use Rattle.threshold.specs.Threshold.{shape_of}
use Rattle.threshold.proofs.Laws.{weights_16, met_is}
use Rattle.attainable.proofs.Laws.{by_all}
use Rattle.attainable.proofs.attainable.Goals as goal

pub returns : goal.returns
returns c =
    let g : shape_of c.args.t ≡ 0 = grind (arith, common_steps) in
    by_all c.args.t c.args.keys _ _ _ (weights_16 c.args.t _ c.well_formed.0) g (omega arith) c.cut_to-all.ensures c.judge.ensures (c.is_ok.ensures.value ∙ met_is _)
