use native.Mathlib.Omega.{arith}
use Rattle.snapshot.proofs.Assembled.{all_fit, real_loose, joined-size}
use Rattle.snapshot.proofs.joined_size.Goals as goal

pub items_size-witnesses-requires : goal.items_size-witnesses-requires
items_size-witnesses-requires c = let a = c.args in (all_fit a.x a.point.now a.signers.now a.last.now c.requires).witnesses

pub returns : goal.returns
returns c = let a = c.args in
    let f = all_fit a.x a.point.now a.signers.now a.last.now c.requires in
    let r = real_loose a.x _ c.well_formed.0 in
    record {
      is = joined-size a.x a.point.now a.signers.now a.last.now _ r f.traits c.items_size-witnesses.ensures.is;
      few = omega (arith, f.witnesses, f.traits, f.point, f.last, f.signers);
    }
