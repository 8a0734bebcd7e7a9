-- A step on the way to a body's answer, for a holder and a content of good shape. proofs/Laws has that it leads to `taken`.
use Rattle.lists.specs.Lists.{pick}
use Rattle.answer.specs.Answer.{refused, accepted}
use Rattle.event.specs.declared.Event.{Event}
use Rattle.state.specs.declared.Holder.{Holder}
use Rattle.state.specs.State.{is_held, holding}
use Rattle.ingest.specs.declared.Offered.{Offered}
use Rattle.ingest.specs.Judgement.{settled, turned_away, judgement, next_state}
use Rattle.layout.specs.Records.{Content, event, snapshot, refusal}

-- an event's judgement, with no shape looked at
abbrev pub judged : Holder → Event → Offered
judged h e = settled h (judgement h e) (holding (next_state h.state e))

abbrev pub content_judged : Holder → Content → Offered
content_judged h (event e) = judged h e
content_judged h (snapshot s) = settled h (pick (is_held h) (refused 5 0 0) accepted) (holding s)
content_judged h (refusal n) = turned_away h n
