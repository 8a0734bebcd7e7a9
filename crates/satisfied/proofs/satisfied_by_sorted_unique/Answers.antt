use Rattle.std.proofs.Common.{arith, ◌≡◌, ◌∙◌, sym, length}
use Rattle.std.proofs.lemmas.Grind.{common_steps}
use Rattle.threshold.specs.Threshold.{shape_of}
use Rattle.threshold.proofs.Laws.{weights_16}
use Rattle.satisfied.proofs.Laws.{of_set, by_list}
use Rattle.satisfied.proofs.satisfied_by_sorted_unique.Goals as goal

pub returns : goal.returns
returns c =
    let t = c.args.t in
    let ps = c.args.ps.now in
    let g : shape_of t ≡ 0 = grind (arith, common_steps) in
    of_set t ps (length ps) _ _ (weights_16 t _ c.well_formed.0) c.set_of.ensures c.judge.ensures ∙ by_list t ps g (sym c.is_rising.ensures ∙ c.if-not-is_rising.false)
