-- What 27 and 28 speak of, for every event: whose threshold, and which places.
use Rattle.answer.specs.declared.Answer.{Answer}
use Rattle.verification.specs.Verification.{signatures}
use Rattle.authority.specs.declared.Authority.{Authority}
use Rattle.authority.specs.Authority.{signed_by, exposed_by}
use Rattle.event.specs.declared.Ilk.{Ilk}
use Rattle.event.specs.declared.Ilk.TheVariants.{Inception, Rotation, Interaction, DelegatedInception, DelegatedRotation}
use Rattle.event.specs.declared.Event.{Event}
use Rattle.state.specs.declared.KeyState.{KeyState}

-- the keys that an event brings, "with the state's keys" for an interaction
abbrev pub signers : Ilk → KeyState → Event → Authority
signers Inception s e = e.body.authority
signers Rotation s e = e.body.authority
signers Interaction s e = s.authority
signers DelegatedInception s e = e.body.authority
signers DelegatedRotation s e = e.body.authority

abbrev pub signed27 : Ilk → KeyState → Event → Answer
signed27 k s e = signed_by (signers k s e).threshold (signers k s e).keys.count (signatures e.sigs)

-- "b of 28 speaks of the held state's next threshold"
abbrev pub shown28 : KeyState → Event → Answer
shown28 s e = exposed_by s.commitment.threshold e.body.authority.keys.count s.commitment.next.count (signatures e.sigs)
