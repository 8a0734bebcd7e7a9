-- Demand 2's definition: what an event gets, for every holder and every event. The lists of checks are in rules/specs/Rules,
-- the sets of places in verification/specs/Verification, the next states in state/specs/State.
use Rattle.std.specs.Prelude.{ℕ, [], ◌∷◌, Result, Ok, Err}
use Rattle.lists.specs.Lists.{pick}
use Rattle.answer.specs.declared.Answer.{Answer}
use Rattle.answer.specs.declared.Refusal.{Refusal}
use Rattle.answer.specs.Answer.{refused, accepted, first_refusal, passes}
use Rattle.answer.specs.Refusal.{answer_of}
use Rattle.items.specs.Items.{packed}
use Rattle.verification.specs.Verification.{signatures}
use Rattle.authority.specs.Authority.{signed_by, exposed_by, receipted_by}
use Rattle.event.specs.declared.Ilk.{Ilk}
use Rattle.event.specs.declared.Ilk.TheVariants.{Inception, Rotation, Interaction, DelegatedInception, DelegatedRotation}
use Rattle.event.specs.declared.Event.{Event}
use Rattle.shape.specs.Event.{event_shape}
use Rattle.state.specs.declared.KeyState.{KeyState}
use Rattle.state.specs.declared.Holder.{Holder}
use Rattle.state.specs.State.{may_move, is_held, holding, seeded, rotated, stepped}
use Rattle.shape.specs.State.{holder_shape}
use Rattle.rules.specs.Rules.{inception, rotation, interaction, new_witnesses}
use Rattle.ingest.specs.declared.Offered.{Offered}

-- ---- The rules on an event's own signatures and receipts
-- an inception is signed by its own keys, and receipted by its own witnesses
abbrev pub incepted : Event → Answer
incepted e =
    inception e.head e.body e.anchors
    (signed_by e.body.authority.threshold e.body.authority.keys.count (signatures e.sigs))
    (λ witnesses. receipted_by e.body.toad witnesses (signatures e.receipts))

-- a rotation is signed by the keys that it brings, exposes the state's next digests, and is receipted by the new witnesses
abbrev pub rotates : KeyState → Event → Answer
rotates s e =
    rotation s e.head e.body
    (signed_by e.body.authority.threshold e.body.authority.keys.count (signatures e.sigs))
    (exposed_by s.commitment.threshold e.body.authority.keys.count s.commitment.next.count (signatures e.sigs))
    (λ witnesses. receipted_by e.body.toad witnesses (signatures e.receipts))

-- an interaction is signed by the state's keys, and receipted by the state's witnesses
abbrev pub interacts : KeyState → Event → Answer
interacts s e =
    interaction s e.head
    (signed_by s.authority.threshold s.authority.keys.count (signatures e.sigs))
    (λ witnesses. receipted_by s.witnessing.toad witnesses (signatures e.receipts))

-- ---- "Empty holder: .. DI 6; any other than IC 8."
abbrev pub on_nothing : Ilk → Event → Answer
on_nothing Inception e = incepted e
on_nothing Rotation e = refused 8 0 0
on_nothing Interaction e = refused 8 0 0
on_nothing DelegatedInception e = refused 6 0 0
on_nothing DelegatedRotation e = refused 8 0 0

-- ---- "Held state: .. 10 before the rest; DR 7, DI 6, IC 9."
abbrev pub where_live : Ilk → KeyState → Event → Answer
where_live Inception s e = refused 9 0 0
where_live Rotation s e = rotates s e
where_live Interaction s e = interacts s e
where_live DelegatedInception s e = refused 6 0 0
where_live DelegatedRotation s e = refused 7 0 0

unfoldable pub on_state : KeyState → Event → Answer
on_state s e = pick (may_move s) (where_live e.ilk s e) (refused 10 0 0)

-- ---- The whole: "state first, then record"; "Numbers 1 to 4 come before all others"
unfoldable pub judgement : Holder → Event → Answer
judgement h e = pick (is_held h) (on_state h.state e) (on_nothing e.ilk e)

abbrev pub shaped : Holder → Event → Answer → Answer
shaped h e x = first_refusal (refused (holder_shape h) 0 0 ∷ refused (event_shape e) 0 0 ∷ x ∷ [])

unfoldable pub answer_to : Holder → Event → Answer
answer_to h e = shaped h e (judgement h e)

-- ---- The next state where the event is accepted
abbrev pub next_as : Ilk → KeyState → Event → KeyState
next_as Inception s e = seeded e.head e.body
next_as Rotation s e = rotated s e.head e.body (packed (new_witnesses s e.body))
next_as Interaction s e = stepped s e.head
next_as DelegatedInception s e = s
next_as DelegatedRotation s e = s

unfoldable pub next_state : KeyState → Event → KeyState
next_state s e = next_as e.ilk s e

-- "Every refusal leaves state and buffers untouched."
abbrev pub settled : Holder → Answer → Holder → Offered
settled before x after = record { answer = x; holder = pick (passes x) after before }

-- the same of what a check gives: the next state, or its refusal
abbrev pub settled_as : Holder → Result KeyState Refusal → Offered
settled_as before (Ok s) = record { answer = accepted; holder = holding s }
settled_as before (Err r) = record { answer = answer_of r; holder = before }

-- a refusal with no details
abbrev pub turned_away : Holder → ℕ → Offered
turned_away h n = record { answer = refused n 0 0; holder = h }

unfoldable pub offered : Holder → Event → Offered
offered h e = settled h (answer_to h e) (holding (next_state h.state e))
