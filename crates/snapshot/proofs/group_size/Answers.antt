use native.Mathlib.Omega.{arith}
use Rattle.snapshot.proofs.Size.{group-size}
use Rattle.snapshot.proofs.group_size.Goals as goal

pub returns : goal.returns
returns c = let i = c.items_size.ensures in
    let t = c.threshold_size.ensures in
    record { is = group-size _ _ _ _ i.is t.is; few = omega arith }
