use Rattle.std.proofs.Common.{rules}
use Rattle.lists.proofs.Chains.{unused, yields_all}
use lib.Dec.{eqb}
use Rattle.config.proofs.unused_zero.Goals as goal

pub returns : goal.returns
returns c = yields_all (eqb 0) _ _ _ c.all.ensures.ran (unused c.args.c.traits c.args.c.count (cc) (cc)) (λ x b q k. search rules)
