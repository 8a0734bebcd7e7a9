use Rattle.std.proofs.Common.{rules}
use Rattle.lists.proofs.Chains.{unused, yields_all}
use Rattle.item.specs.Item.{is_zero}
use Rattle.items.proofs.unused_zero.Goals as goal

pub returns : goal.returns
returns c = yields_all is_zero _ _ _ c.all.ensures.ran (unused c.args.l.at c.args.l.count (cc) (cc)) (λ x b q k. search rules)
