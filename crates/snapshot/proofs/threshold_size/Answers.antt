use mathlib.Core.Path.{sym}
use native.Mathlib.Omega.{arith}
use Rattle.snapshot.proofs.Shapes.{is_weighted}
use Rattle.snapshot.proofs.Real.{real_threshold}
use Rattle.snapshot.proofs.Size.{simple-size, weighted-size}
use Rattle.snapshot.proofs.threshold_size.Goals as goal

pub returns-then-t-eq0 : goal.returns-then-t-eq0
returns-then-t-eq0 c = let t = c.args.t in
    record { is = sym (simple-size t c.if-t-eq0.true); few = omega arith }

pub overflow_add-result : goal.overflow_add-result
overflow_add-result c = let few = (is_weighted c.args.t c.requires c.if-t-eq0.false).few in omega arith

pub returns : goal.returns
returns c = let t = c.args.t in
    let g = is_weighted t c.requires c.if-t-eq0.false in
    let few = g.few in
    let light = g.light in
    let e = c.weights_in.ensures in
    let r = real_threshold t _ c.well_formed.0 in
    record {
      is = sym (weighted-size t r c.weights_in.result c.if-t-eq0.false e few (omega arith));
      few = omega arith;
    }
