-- What callers of a lent state cite: a refusal leaves the state as it came.
use mathlib.Core.Path.{◌≡◌, ap}
use mathlib.Core.Bool.{Bool, false}
use Rattle.lists.specs.Lists.{pick}
use Rattle.answer.specs.Answer.{passes}
use Rattle.event.specs.declared.Event.{Event}
use Rattle.state.specs.declared.KeyState.{KeyState}
use Rattle.state.specs.State.{holding}
use Rattle.ingest.specs.Judgement.{next_state, offered}
use Rattle.lent_state.specs.Ingested.{ingested}

pub as_it_came : (s : KeyState) (e : Event) → passes (ingested s e).answer ≡ false → (ingested s e).state ≡ s
unfolding ingested offered
as_it_came s e h = ap (λ (p : Bool). (pick p (holding (next_state s e)) (holding s)).state) h
