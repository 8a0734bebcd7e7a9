use Rattle.std.proofs.Common.{rules}
use Rattle.std.proofs.lemmas.Iterator.{YieldsList-from_slice}
use Rattle.item.specs.Item.{is_transferable}
use Rattle.items.specs.Items.{listed}
use Rattle.lists.proofs.Chains.{yields_first}
use Rattle.member_set.proofs.first_transferable.Goals as goal

pub returns : goal.returns
returns c = yields_first is_transferable _ _ _ c.position.ensures.ran (YieldsList-from_slice (listed c.args.l) cc) (λ x b q k. search rules)
