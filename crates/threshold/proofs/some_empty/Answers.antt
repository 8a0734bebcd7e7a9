use Rattle.std.proofs.Common.{◌∙◌}
use Rattle.threshold.proofs.Laws.{any_zero}
use Rattle.threshold.proofs.some_empty.Goals as goal

pub returns : goal.returns
returns c = c.contains.ensures.value ∙ any_zero c.args.sizes.now
