use mathlib.Core.Path.{sym}
use native.Mathlib.Omega.{arith}
use Rattle.snapshot.proofs.Real.{real_items}
use Rattle.snapshot.proofs.Size.{items_size}
use Rattle.snapshot.proofs.items_size.Goals as goal

pub returns : goal.returns
returns c = let l = c.args.l in
    record { is = sym (items_size l (real_items l _ c.well_formed.0) c.requires); few = omega arith }
