use Rattle.std.proofs.Common.{rules}
use Rattle.lists.proofs.Chains.{used, yields_all}
use Rattle.item.specs.Item.{item_fits}
use Rattle.items.proofs.used_fit.Goals as goal

pub returns : goal.returns
returns c = yields_all (item_fits c.args.kind) _ _ _ c.all.ensures.ran (used c.args.l.at c.args.l.count (cc) (cc)) (λ x b q k. search rules)
