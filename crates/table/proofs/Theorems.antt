-- Demand 1: "Every byte string and every record gets an answer from document 01's table", whatever is held. Assumes nothing.
--     in_table             the one-record call on any byte string
--     log_in_table         every record of a byte string, one after the other
--     event_in_table       an event struct; fold_in_table: the same in the unchecked fold
--     saving_in_table      a snapshot saved: 41 too, and neither 39 nor 40; saved_in_table: at most 41
--     offer_in_table, ..   the calls on a state in a buffer, whatever the buffer holds: 41 too
use mathlib.Core.Path.{◌≡◌, refl}
use mathlib.Core.Logic.{inl, inr, ⊎_elim}
use mathlib.Core.List.{List}
use Prim.Native.Nat.{ℕ, ◌≤◌}
use native.Mathlib.Omega.{arith}
use lib.ListN.{length}
use Rattle.answer.specs.Answer.{refused}
use Rattle.event.specs.declared.Event.{Event}
use Rattle.state.specs.declared.Holder.{Holder}
use Rattle.ingest.specs.Judgement.{offered}
use Rattle.fold.specs.Fold.{folded}
use Rattle.decoded.proofs.Gives.{Each}
use Rattle.receive.specs.Received.{received}
use Rattle.snapshot.specs.Saved.{saved}
use Rattle.record_log.specs.Log.{records_of, answers}
use Rattle.record_log.proofs.Steps.{records_shaped}
use Rattle.in_place.specs.Calls.{offered_in, body_offered_in, folded_in, body_folded_in, asked}
use Rattle.table.specs.Table.{InTable, InTableOfSaving}
use Rattle.table.proofs.Entries.{offered_in_lem, folded_in_lem, received_in, answers_in, asked_in, saved_in, offer_in, offer_body_in, fold_in, fold_body_in}

abbrev Numbered : ℕ → Type 0
Numbered n = InTable (refused n 0 0)

low : (n : ℕ) → n ≤ 28 → Numbered n
low n p = omega arith

high : (n : ℕ) → 30 ≤ n → n ≤ 38 → Numbered n
high n p q = omega arith

pub event_in_table : (h : Holder) (e : Event) → InTable (offered h e).answer
event_in_table = offered_in_lem Numbered low high

pub fold_in_table : (h : Holder) (e : Event) → InTable (folded h e).answer
fold_in_table = folded_in_lem Numbered low high

pub in_table : (h : Holder) (s : List ℕ) → InTable (received h s).offered.answer
in_table = received_in Numbered low high

pub log_in_table : (h : Holder) (s : List ℕ) → Each InTable (answers h (records_of s))
log_in_table h s = answers_in Numbered low high h (records_of s) (records_shaped (length s) s)

-- ---- with 41
abbrev Saving : ℕ → Type 0
Saving n = InTableOfSaving (refused n 0 0)

low_saving : (n : ℕ) → n ≤ 28 → Saving n
low_saving n p = inl (low n p)

high_saving : (n : ℕ) → 30 ≤ n → n ≤ 38 → Saving n
high_saving n p q = inl (high n p q)

-- saving: 0, 3, 4, 8 or 41
pub saving_in_table : (h : Holder) (buf : List ℕ) → InTableOfSaving (saved h buf).0
saving_in_table = saved_in Saving low_saving high_saving (inr refl)

pub saved_in_table : (h : Holder) (buf : List ℕ) → (saved h buf).0.number ≤ 41
saved_in_table h buf = ⊎_elim (λ (p : InTable (saved h buf).0). to_41 _ p) (λ (p : (saved h buf).0.number ≡ 41). just_41 _ p) (saving_in_table h buf)
  where
    to_41 : (n : ℕ) → n ≤ 38 → n ≤ 41
    to_41 n p = omega arith

    just_41 : (n : ℕ) → n ≡ 41 → n ≤ 41
    just_41 n p = omega arith

-- keystate_offer, keystate_fold and keystate_ask answer these numbers; the other two take a record as mark and body
pub offer_in_table : (buf : List ℕ) (used : ℕ) (s : List ℕ) → InTableOfSaving (offered_in buf used s).answer
offer_in_table = offer_in Saving low_saving high_saving (inr refl)

pub offer_body_in_table : (buf : List ℕ) (used mark : ℕ) (body : List ℕ) → InTableOfSaving (body_offered_in buf used mark body).answer
offer_body_in_table = offer_body_in Saving low_saving high_saving (inr refl)

pub fold_call_in_table : (buf : List ℕ) (used : ℕ) (s : List ℕ) → InTableOfSaving (folded_in buf used s).answer
fold_call_in_table = fold_in Saving low_saving high_saving (inr refl)

pub fold_body_in_table : (buf : List ℕ) (used mark : ℕ) (body : List ℕ) → InTableOfSaving (body_folded_in buf used mark body).answer
fold_body_in_table = fold_body_in Saving low_saving high_saving (inr refl)

pub ask_in_table : (s : List ℕ) → InTable (asked s)
ask_in_table = asked_in Numbered low high
