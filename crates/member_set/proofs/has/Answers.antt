use Rattle.std.proofs.Common.{rules}
use Rattle.std.proofs.lemmas.Iterator.{YieldsList-from_slice}
use Rattle.item.specs.Item.{same_item}
use Rattle.lists.proofs.Chains.{yields_any}
use Rattle.member_set.proofs.has.Goals as goal

pub returns : goal.returns
returns c = yields_any (same_item c.args.x) _ _ _ c.any.ensures.ran (YieldsList-from_slice c.args.these.now cc) (λ x b q k. search rules)
