use Rattle.in_place.proofs.Folds.{asked_state}
use Rattle.in_place.proofs.ask.Goals as goal

pub returns-in-Ok-Some : goal.returns-in-Ok-Some
returns-in-Ok-Some c = asked_state c.args.state.now c.in-Ok-Some.m c.from_u64.result (rw c.in-Ok-Some.field-0-is at c.in-Ok-Some.ensures.result_value) c.from_u64.ensures
