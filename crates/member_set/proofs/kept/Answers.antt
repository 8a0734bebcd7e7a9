use mathlib.Core.Path.{◌∙◌, ap}
use mathlib.Core.List.{List}
use native.Mathlib.Omega.{arith}
use Prim.Native.Nat.{◌≤◌}
use lib.ListN.{length}
use Rattle.lists.specs.Lists.{filter}
use Rattle.item.specs.declared.Item.{Item}
use Rattle.items.specs.Items.{listed, packed}
use Rattle.member_set.specs.Members.{absent}
use Rattle.member_set.proofs.Laws.{listed_few, kept_room, kept_end}
use Rattle.member_set.proofs.kept.Goals as goal

pub push-requires : goal.push-requires
push-requires c = let xs = c.used-x-items.result.now in
    let few : length xs ≤ 16 = rw c.used-x-items.ensures (listed_few c.args.current _ c.well_formed.0) in
    rw c.loop-x.invariant (kept_room (listed c.args.cuts) xs c.loop-x.x-index (omega arith))

pub returns : goal.returns
returns c = let xs = c.used-x-items.result.now in
    let few : length xs ≤ 16 = rw c.used-x-items.ensures (listed_few c.args.current _ c.well_formed.0) in
    c.loop-x.invariant ∙ kept_end (listed c.args.cuts) xs c.loop-x.x-index few (omega arith) ∙ ap (λ (ys : List Item). packed (filter (absent (listed c.args.cuts)) ys)) c.used-x-items.ensures
