-- Where the runs of a record's bytes start and end. Assumes nothing.
use mathlib.Core.Path.{◌≡◌, sym, ◌∙◌, ap, ap₂}
use mathlib.Core.Bool.{Bool, false, not}
use mathlib.Core.List.{List}
use Prim.Native.Nat.{ℕ, ◌-◌, ◌≤◌}
use native.Mathlib.Omega.{arith}
use borrow.Author.Tests.{eq-eqb, ne_eqb}
use lib.Dec.{eqb}
use lib.ListN.{length, take, drop, length-take}
use Rattle.lists.specs.Lists.{both}
use Rattle.item.specs.declared.Item.{Item}
use Rattle.items.specs.declared.Items.{Items}
use Rattle.config.specs.declared.Config.{Config}
use Rattle.answer.specs.declared.Answer.{Answer}
use Rattle.answer.specs.Answer.{accepted}
use Rattle.event.specs.declared.Head.{Head}
use Rattle.event.specs.declared.Body as E
use Rattle.state.specs.State.{rotated, can_move, moves_with}
use Rattle.record.specs.declared.EventMarks.{EventMarks}
use Rattle.record.specs.declared.StateMarks.{StateMarks}
use Rattle.record.specs.Marks.{inception_places, rotation_places, interaction_places, snapshot_places, state_of}
use Rattle.snapshot.specs.declared.Loose.{Loose}
use Rattle.snapshot.specs.Assembled.{loose_of}
use Rattle.canonical.proofs.Laws.{inception_point, inception-signers, rotation_point, rotation-signers, interaction_point, snapshot_signers, snapshot_last}
use Rattle.found.specs.Found.{Got, Small}
use Rattle.in_place.specs.Calls.{after_saving}
use Rattle.in_place.specs.Steps.{Body, state_at, Keeps, left}
use Rattle.in_place.proofs.Written.{small_bytes}

-- ---- where a record's runs are
pub record Runs (s : List ℕ) (from : ℕ) (first : ℕ) : Type 0 where
  pub point : 82 ≤ length s
  pub some : 1 ≤ first
  pub starts : from ≤ first - 1
  pub room : first - 1 ≤ length s

module _ (s : List ℕ) (body : Body s) where
  pub inception_runs : (m : EventMarks) → Got (inception_places s 0) m → Runs s 82 m.body.additions.first
  inception_runs m g =
      let p = inception_point s (small_bytes s body.small) m g.next g.is in
      let q = inception-signers s (small_bytes s body.small) m g.next g.is in
      let n = q.count in
      record { point = p.room; some = omega arith; starts = q.starts; room = q.room }

  pub rotation_runs : (m : EventMarks) → Got (rotation_places s 0) m → Runs s 115 m.body.additions.first
  rotation_runs m g =
      let p = rotation_point s (small_bytes s body.small) m g.next g.is in
      let q = rotation-signers s (small_bytes s body.small) m g.next g.is in
      let n = q.count in
      record { point = p.room; some = omega arith; starts = q.starts; room = q.room }

  pub snapshot_runs : (m : StateMarks) → Got (snapshot_places s 0) m → Runs s 83 m.body.additions.first
  snapshot_runs m g =
      let l = (snapshot_last s (small_bytes s body.small) m g.next g.is).room in
      let q = snapshot_signers s (small_bytes s body.small) m g.next g.is in
      let n = q.count in
      record { point = omega arith; some = omega arith; starts = q.starts; room = q.room }

pub interaction_room : (s : List ℕ) → Small s → (m : EventMarks) → Got (interaction_places s 0) m → 82 ≤ length s
interaction_room s small m g = (interaction_point s (small_bytes s small) m g.next g.is).room
