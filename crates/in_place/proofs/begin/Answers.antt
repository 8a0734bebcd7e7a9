use Prim.Native.Nat.{◌≤◌, ◌-◌}
use lib.ListN.{length}
use Rattle.in_place.proofs.Parts.{inception_runs}
use borrow.Author.Rules.{rules}
use Rattle.in_place.proofs.begin.Goals as goal

pub overflow_sub-end : goal.overflow_sub-end
overflow_sub-end c = let a = c.args in
    let r = inception_runs a.s.now c.requires.body a.m c.requires.got in
    r.some

pub slice_bounds-settle-end : goal.slice_bounds-settle-end
slice_bounds-settle-end c = let a = c.args in
    let r = inception_runs a.s.now c.requires.body a.m c.requires.got in
    let upper : 82 ≤ length a.s.now = r.point in
    search rules

pub slice_bounds-settle-count-2 : goal.slice_bounds-settle-count-2
slice_bounds-settle-count-2 c = let a = c.args in
    let r = inception_runs a.s.now c.requires.body a.m c.requires.got in
    r.starts

pub slice_bounds-settle-start-2 : goal.slice_bounds-settle-start-2
slice_bounds-settle-start-2 c = let a = c.args in
    let r = inception_runs a.s.now c.requires.body a.m c.requires.got in
    let lower : 82 ≤ a.m.body.additions.first - 1 = r.starts in
    search rules

pub slice_bounds-settle-end-2 : goal.slice_bounds-settle-end-2
slice_bounds-settle-end-2 c = let a = c.args in
    let r = inception_runs a.s.now c.requires.body a.m c.requires.got in
    let upper : a.m.body.additions.first - 1 ≤ length a.s.now = r.room in
    search rules

pub slice_bounds-settle-end-3 : goal.slice_bounds-settle-end-3
slice_bounds-settle-end-3 c = let a = c.args in
    let r = inception_runs a.s.now c.requires.body a.m c.requires.got in
    let upper : 82 ≤ length a.s.now = r.point in
    search rules
