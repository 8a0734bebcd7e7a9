-- Request 14: "no record and no holder ever gets it, because the basic-prefix checks come first, and removing the check changes no
-- answer". The reason is reserved/proofs/Laws: where 29's check would refuse, 12 to 15 have refused. Assumes nothing.
--     no_event_gets_29, no_state_gets_29         structs: an event offered to any holder, to any key state
--     no_record_gets_29, no_log_gets_29          bytes: the first record of any byte string; all its records, one after the other
--     no_call_gets_29, no_body_call_gets_29      the device's calls: any buffer, any number of used bytes, any byte string
--     no_fold_gets_29, .., no_saving_gets_29     the unchecked fold, asking and saving, which have no such check at all
--     removing_changes_nothing                   demand 2's definition with the check and without, answer and next state
use mathlib.Core.Path.{◌≡◌, refl, ap}
use mathlib.Core.List.{List, ◌∷◌, []}
use Prim.Native.Nat.{ℕ, ◌≤◌}
use native.Mathlib.Omega.{arith}
use borrow.Author.Tests.{eqb-true}
use lib.ListN.{length}
use Rattle.lists.specs.Lists.{pick}
use Rattle.answer.specs.declared.Answer.{Answer}
use Rattle.answer.specs.Answer.{refused, first_refusal}
use Rattle.answer.proofs.Laws.{then_same}
use Rattle.event.specs.declared.Ilk.{Ilk}
use Rattle.event.specs.declared.Ilk.TheVariants.{Inception, Rotation, Interaction, DelegatedInception, DelegatedRotation}
use Rattle.event.specs.declared.Event.{Event}
use Rattle.state.specs.declared.KeyState.{KeyState}
use Rattle.state.specs.declared.Holder.{Holder}
use Rattle.state.specs.State.{is_held, holding}
use Rattle.shape.specs.Event.{shape_as, event_shape}
use Rattle.shape.specs.State.{holder_shape}
use Rattle.shape.proofs.Laws.{good_prefix}
use Rattle.reserved.proofs.Laws.{without_29}
use Rattle.ingest.specs.Judgement.{on_nothing, on_state, judgement, answer_to, next_state, settled, offered}
use Rattle.lent_state.specs.Ingested.{ingested}
use Rattle.fold.specs.Fold.{folded}
use Rattle.decoded.proofs.Gives.{Each}
use Rattle.receive.specs.Received.{received}
use Rattle.snapshot.specs.Saved.{saved}
use Rattle.record_log.specs.Log.{records_of, answers}
use Rattle.record_log.proofs.Steps.{records_shaped}
use Rattle.in_place.specs.Calls.{offered_in, body_offered_in, folded_in, body_folded_in, asked}
use Rattle.table.specs.Table.{Never29}
use Rattle.table.specs.Without29.{on_nothing_without29, offered_without29}
use Rattle.table.proofs.Entries.{offered_in_lem, ingested_in, folded_in_lem, received_in, answers_in, asked_in, saved_in, offer_in, offer_body_in, fold_in, fold_body_in}

abbrev Not29 : ℕ → Type 0
Not29 n = Never29 (refused n 0 0)

below : (n : ℕ) → n ≤ 28 → Not29 n
below n p e = omega arith

above : (n : ℕ) → 30 ≤ n → n ≤ 38 → Not29 n
above n p q e = omega arith

room : Not29 41
room e = omega (arith, e)

-- ---- structs
pub no_event_gets_29 : (h : Holder) (e : Event) → Never29 (offered h e).answer
no_event_gets_29 = offered_in_lem Not29 below above

pub no_state_gets_29 : (s : KeyState) (e : Event) → Never29 (ingested s e).answer
no_state_gets_29 = ingested_in Not29 below above

-- ---- bytes
pub no_record_gets_29 : (h : Holder) (s : List ℕ) → Never29 (received h s).offered.answer
no_record_gets_29 = received_in Not29 below above

pub no_log_gets_29 : (h : Holder) (s : List ℕ) → Each Never29 (answers h (records_of s))
no_log_gets_29 h s = answers_in Not29 below above h (records_of s) (records_shaped (length s) s)

-- ---- the device's calls
pub no_call_gets_29 : (buf : List ℕ) (used : ℕ) (s : List ℕ) → Never29 (offered_in buf used s).answer
no_call_gets_29 = offer_in Not29 below above room

pub no_body_call_gets_29 : (buf : List ℕ) (used mark : ℕ) (body : List ℕ) → Never29 (body_offered_in buf used mark body).answer
no_body_call_gets_29 = offer_body_in Not29 below above room

-- ---- what is not the checked path
pub no_fold_gets_29 : (h : Holder) (e : Event) → Never29 (folded h e).answer
no_fold_gets_29 = folded_in_lem Not29 below above

pub no_fold_call_gets_29 : (buf : List ℕ) (used : ℕ) (s : List ℕ) → Never29 (folded_in buf used s).answer
no_fold_call_gets_29 = fold_in Not29 below above room

pub no_fold_body_gets_29 : (buf : List ℕ) (used mark : ℕ) (body : List ℕ) → Never29 (body_folded_in buf used mark body).answer
no_fold_body_gets_29 = fold_body_in Not29 below above room

pub no_asking_gets_29 : (s : List ℕ) → Never29 (asked s)
no_asking_gets_29 = asked_in Not29 below above

pub no_saving_gets_29 : (h : Holder) (buf : List ℕ) → Never29 (saved h buf).0
no_saving_gets_29 = saved_in Not29 below above room

-- ---- removing the check
nothing_without : (k : Ilk) (e : Event) → shape_as k e ≡ 0 → on_nothing k e ≡ on_nothing_without29 k e
nothing_without Inception e z = without_29 e.head e.body e.anchors _ _ (good_prefix e z)
nothing_without Rotation e z = refl
nothing_without Interaction e z = refl
nothing_without DelegatedInception e z = refl
nothing_without DelegatedRotation e z = refl

pub removing_changes_nothing : (h : Holder) (e : Event) → offered h e ≡ offered_without29 h e
unfolding offered answer_to judgement offered_without29 event_shape
removing_changes_nothing h e =
    ap (λ (x : Answer). settled h x (holding (next_state h.state e)))
    (then_same (refused (holder_shape h) 0 0) _ _ (λ _. then_same (refused (event_shape e) 0 0) _ _
    (λ z. ap (λ (x : Answer). first_refusal (pick (is_held h) (on_state h.state e) x ∷ [])) (nothing_without e.ilk e (eqb-true (event_shape e) 0 z)))))
