use Rattle.record.specs.Marks.{state_of}
use Rattle.in_place.specs.Steps.{state_at}
use Rattle.in_place.proofs.Answers.{held_snapshot}
use Rattle.in_place.proofs.offer_held.Goals as goal

pub returns-in-Ok-Snapshot : goal.returns-in-Ok-Snapshot
returns-in-Ok-Snapshot c = let a = c.args in
    held_snapshot a.state.now a.used.now (state_at a.state.now a.used.now a.sm) (state_of a.s.now c.in-Ok-Snapshot.field-0-0) a.mark a.s.now (rw (c.in-Ok-Snapshot.is, c.in-Ok-Snapshot.field-0-is) at c.by_mark.ensures.result_value)
