-- What an event offered to a held state gets: the answer, and the state after it. Both are those of ingest's `offered` on a holder of that state.
use Rattle.event.specs.declared.Event.{Event}
use Rattle.state.specs.declared.KeyState.{KeyState}
use Rattle.state.specs.State.{holding}
use Rattle.ingest.specs.Judgement.{offered}
use Rattle.lent_state.specs.declared.Ingested.{Ingested}

unfoldable pub ingested : KeyState → Event → Ingested
ingested s e = record { answer = (offered (holding s) e).answer; state = (offered (holding s) e).holder.state }
