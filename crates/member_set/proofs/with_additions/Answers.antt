use native.Mathlib.Omega.{arith}
use Prim.Native.Nat.{◌≤◌}
use lib.ListN.{length}
use Rattle.items.specs.Items.{listed}
use Rattle.member_set.proofs.Laws.{listed_few, joined_start, joined_room}
use Rattle.member_set.proofs.with_additions.Goals as goal

pub loop-i-init : goal.loop-i-init
loop-i-init c = joined_start c.args.first c.requires (listed_few c.args.first _ c.well_formed.0)

pub push-requires : goal.push-requires
push-requires c = let a = c.args in
    let xs = c.used-these.result.now in
    let few : length xs ≤ 16 = rw c.used-these.ensures (listed_few a.adds _ c.well_formed.1.0) in
    rw c.loop-i.invariant (joined_room (listed a.first) xs c.loop-i.i (listed_few a.first _ c.well_formed.0) (omega arith))
