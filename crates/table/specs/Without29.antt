-- Request 14, "removing the check changes no answer": demand 2's definition (ingest/specs/Judgement) over the list without 29. What
-- records and the device's calls get is made of `offered`, so it is the same there.
use Rattle.lists.specs.Lists.{pick}
use Rattle.answer.specs.declared.Answer.{Answer}
use Rattle.verification.specs.Verification.{signatures}
use Rattle.authority.specs.Authority.{signed_by, receipted_by}
use Rattle.event.specs.declared.Ilk.{Ilk}
use Rattle.event.specs.declared.Ilk.TheVariants.{Inception, Rotation, Interaction, DelegatedInception, DelegatedRotation}
use Rattle.event.specs.declared.Event.{Event}
use Rattle.state.specs.declared.Holder.{Holder}
use Rattle.state.specs.State.{is_held, holding}
use Rattle.reserved.specs.Reserved.{inception_without29}
use Rattle.ingest.specs.declared.Offered.{Offered}
use Rattle.ingest.specs.Judgement.{on_nothing, on_state, shaped, next_state, settled}

abbrev pub incepted_without29 : Event → Answer
incepted_without29 e =
    inception_without29 e.head e.body e.anchors
    (signed_by e.body.authority.threshold e.body.authority.keys.count (signatures e.sigs))
    (λ witnesses. receipted_by e.body.toad witnesses (signatures e.receipts))

abbrev pub on_nothing_without29 : Ilk → Event → Answer
on_nothing_without29 Inception e = incepted_without29 e
on_nothing_without29 Rotation e = on_nothing Rotation e
on_nothing_without29 Interaction e = on_nothing Interaction e
on_nothing_without29 DelegatedInception e = on_nothing DelegatedInception e
on_nothing_without29 DelegatedRotation e = on_nothing DelegatedRotation e

unfoldable pub offered_without29 : Holder → Event → Offered
offered_without29 h e = settled h (shaped h e (pick (is_held h) (on_state h.state e) (on_nothing_without29 e.ilk e))) (holding (next_state h.state e))
