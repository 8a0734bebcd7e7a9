use mathlib.Core.Path.{ap}
use Prim.Native.Nat.{ℕ, ◌-◌, ◌^◌, ◌<◌}
use native.Mathlib.Omega.{arith}
use lib.ListN.{length}
use Rattle.walk.specs.Walk.{Lent, lent}
use Rattle.walk.proofs.Laws.{next_some, next_within, walking_next, walked_all, walked_end}
use borrow.Author.Rules.{rules}
use Rattle.walk.proofs.walk.Goals as goal

pub overflow_add-at : goal.overflow_add-at
overflow_add-at c = let l = c.loop-at in
    let n = next_within (lent c.args.state.now c.args.used.now) c.args.s.now l.state l.used l.w l.at l.invariant.0 c.loop-at-test.true _ c.length-at.ensures in
    let b : length c.args.s.now < 2 ^ 64 = c.well_formed.1.1.0.0 in
    search rules

pub loop-at-smaller : goal.loop-at-smaller
loop-at-smaller c = let l = c.loop-at in
    let more = c.loop-at-test.true in
    let n = next_some (lent c.args.state.now c.args.used.now) c.args.s.now l.state l.used l.w l.at l.invariant.0 more _ c.length-at.ensures in
    omega arith

pub loop-at-preserved : goal.loop-at-preserved
loop-at-preserved c = let l = c.loop-at in
    let x = c.offer-x.ensures in
    (walking_next (lent c.args.state.now c.args.used.now) c.args.s.now l.state l.used l.w l.at l.invariant.0 c.loop-at-test.true _ c.length-at.ensures _ _ _ _ x.value x.state_after x.used_after c.count_in-w.ensures, search rules)

pub returns : goal.returns
returns c = let l = c.loop-at in
    let first = lent c.args.state.now c.args.used.now in
    let done = c.loop-at-test.false in
    let e = walked_end first c.args.s.now (lent l.state l.used) l.w l.at l.invariant.0 done in
    record { value = walked_all first c.args.s.now (lent l.state l.used) l.w l.at l.invariant.0 done; state_after = ap (λ (x : Lent). x.bytes) e; used_after = ap (λ (x : Lent). x.used) e }
