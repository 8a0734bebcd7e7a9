use Rattle.std.proofs.Common.{rules}
use Rattle.lists.proofs.Chains.{used, yields_all}
use Rattle.config.specs.Config.{is_trait}
use Rattle.config.proofs.used_fit.Goals as goal

pub returns : goal.returns
returns c = yields_all is_trait _ _ _ c.all.ensures.ran (used c.args.c.traits c.args.c.count (cc) (cc)) (λ x b q k. search rules)
