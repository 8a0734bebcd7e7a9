use Rattle.std.proofs.Common.{rules, arith, ◌≡◌, ◌∙◌, drop, eqb}
use Rattle.std.proofs.lemmas.Grind.{common_steps}
use Rattle.std.proofs.lemmas.Iterator.{YieldsList-from_slice}
use Rattle.std.proofs.lemmas.Iterator.Search.{all_from_yields_List}
use Rattle.std.proofs.lemmas.Iterator.Adapters.{YieldsList-from_skip}
use Rattle.lists.specs.Lists.{all}
use Rattle.weight.specs.Weight.{zero_weight}
use Rattle.threshold.proofs.Laws.{all_zero, all_weights}
use Rattle.threshold.proofs.unused.Goals as goal
use Rattle.threshold.proofs.unused.Goals.{After-all-weights_zero}

sizes : (c : After-all-weights_zero) → c.all-sizes_zero.result ≡ all (eqb 0) (drop c.args.s c.args.t.sizes)
sizes c =
    all_from_yields_List (λ x. eqb x 0) _ _ _ c.all-sizes_zero.ensures.ran (YieldsList-from_skip c.args.s (YieldsList-from_slice c.args.t.sizes (cc)) (cc)) (λ x b q k. search rules)
    ∙ all_zero (drop c.args.s c.args.t.sizes)

weights : (c : After-all-weights_zero) → c.all-weights_zero.result ≡ all zero_weight (drop c.args.w c.args.t.weights)
weights c =
    all_from_yields_List zero_weight _ _ _ c.all-weights_zero.ensures.ran (YieldsList-from_skip c.args.w (YieldsList-from_slice c.args.t.weights (cc)) (cc)) (λ x b q k. search rules)
    ∙ all_weights (drop c.args.w c.args.t.weights)

pub returns-then-weights_zero : goal.returns-then-weights_zero
returns-then-weights_zero c =
    let d = (goal.at.returns-then-weights_zero c).After-all-weights_zero in
    grind (arith, common_steps, sizes d, weights d)

pub returns-else-number-eq0 : goal.returns-else-number-eq0
returns-else-number-eq0 c =
    let d = (goal.at.returns-else-number-eq0 c).After-all-weights_zero in
    grind (arith, common_steps, sizes d, weights d)
