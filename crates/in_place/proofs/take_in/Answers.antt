use native.Mathlib.Omega.{arith}
use Prim.Native.Nat.{◌≤◌, ◌-◌}
use lib.ListN.{length}
use Rattle.in_place.proofs.Parts.{snapshot_runs}
use borrow.Author.Rules.{rules}
use Rattle.in_place.proofs.take_in.Goals as goal

pub overflow_sub-end : goal.overflow_sub-end
overflow_sub-end c = let a = c.args in
    let r = snapshot_runs a.s.now c.requires.body a.m c.requires.got in
    r.some

pub overflow_sub-from : goal.overflow_sub-from
overflow_sub-from c = let a = c.args in
    let r = snapshot_runs a.s.now c.requires.body a.m c.requires.got in
    let long = r.point in
    omega arith

pub slice_bounds-settle-end : goal.slice_bounds-settle-end
slice_bounds-settle-end c = let a = c.args in
    let r = snapshot_runs a.s.now c.requires.body a.m c.requires.got in
    let upper : 82 ≤ length a.s.now = r.point in
    search rules
