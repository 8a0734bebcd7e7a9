use Rattle.std.proofs.Common.{rules, ◌≡◌, ◌∙◌, take}
use Rattle.std.specs.List.{sum}
use Rattle.threshold.proofs.Laws.{sum_is}
use Rattle.threshold.proofs.weights_in.Goals as goal

pub returns : goal.returns
returns c = let e : c.sum.result ≡ sum (take c.args.n c.args.sizes) = search rules in e ∙ sum_is _
