use Rattle.std.proofs.Common.{rules}
use Rattle.std.proofs.lemmas.Iterator.{YieldsList-from_slice}
use Rattle.items.specs.Items.{listed}
use Rattle.member_set.specs.Members.{absent}
use Rattle.lists.proofs.Chains.{yields_first}
use Rattle.member_set.proofs.first_absent.Goals as goal

pub returns : goal.returns
returns c = let a = c.args in
    yields_first (absent (listed a.ys)) _ _ _ c.position.ensures.ran (YieldsList-from_slice (listed a.xs) cc) (λ x b q k. search rules)
