-- What a call on a state in a buffer answers and leaves: the answer, the buffer, and how many of its bytes are used.
use Rattle.std.specs.Prelude.{ℕ, List, eqb, length}
use Rattle.lists.specs.Lists.{pick}
use Rattle.number.specs.Number.{small}
use Rattle.answer.specs.declared.Answer.{Answer}
use Rattle.answer.specs.Answer.{refused, passes}
use Rattle.state.specs.declared.Holder.{Holder}
use Rattle.state.specs.State.{is_held}
use Rattle.ingest.specs.declared.Offered.{Offered}
use Rattle.ingest.specs.Judgement.{turned_away}
use Rattle.layout.specs.Records.{First, record_of, truncated, first_of}
use Rattle.snapshot.specs.Saved.{saved}
use Rattle.receive.specs.Received.{unless_bad, body_taken, received}
use Rattle.fold_record.specs.Folded.{fold_taken, body_folded}
use Rattle.found.specs.Kept.{Kept, kept_in, state_in}

-- ---- What a call on a lent state leaves
pub record Left : Type 0 where
  pub answer : Answer
  pub bytes : List ℕ
  pub used : ℕ

-- "Every refusal leaves state and buffers untouched."
abbrev pub untouched : List ℕ → ℕ → Answer → Left
untouched buf used x = record { answer = x; bytes = buf; used = used }

-- saving "answers 0 with the whole record's length": so many bytes are used now. 41 touches nothing.
abbrev pub after_saving : ℕ → Answer → Answer × List ℕ → Left
after_saving used x (y, buf) =
    pick (passes y) (record { answer = x; bytes = buf; used = y.a.low }) (record { answer = y; bytes = buf; used = used })

-- a refusal stands; a state that was accepted is saved over the buffer
unfoldable pub settled_in : List ℕ → ℕ → Offered → Left
settled_in buf used o = pick (passes o.answer) (after_saving used o.answer (saved o.holder buf)) (untouched buf used o.answer)

-- "state first, then record": bytes that hold no state come before anything of the record
abbrev pub on_state : List ℕ → ℕ → (Holder → Offered) → Kept → Left
on_state buf used f k = pick (eqb k.number 0) (settled_in buf used (f k.holder)) (untouched buf used (refused k.number 0 0))

-- ---- offer: the first record of a byte string gets demand 2's answer
unfoldable pub offered_in : List ℕ → ℕ → List ℕ → Left
offered_in buf used s = on_state buf used (λ h. (received h s).offered) (kept_in buf used)

-- one record's body by its mark, for a reader that holds a record in parts
unfoldable pub body_offered_in : List ℕ → ℕ → ℕ → List ℕ → Left
body_offered_in buf used mark body = on_state buf used (λ h. body_taken h mark body) (kept_in buf used)

-- ---- fold: the first record of a byte string, unchecked. "Events are IC, RO, IX, DI and DR; a KS is none": 2.
abbrev pub folded_first : Holder → First → Offered
folded_first h (record_of mark c next) = unless_bad h (pick (eqb mark 0x4B53) (turned_away h 2) (fold_taken h c))
folded_first h truncated = unless_bad h (turned_away h 1)

unfoldable pub folded_in : List ℕ → ℕ → List ℕ → Left
folded_in buf used s = on_state buf used (λ h. folded_first h (first_of s)) (kept_in buf used)

unfoldable pub body_folded_in : List ℕ → ℕ → ℕ → List ℕ → Left
body_folded_in buf used mark body = on_state buf used (λ h. body_folded h mark body) (kept_in buf used)

-- ---- ask: 0 with the state's number as a; 8, as in saving, where no state is held; 1 to 4 where the bytes hold none
unfoldable pub asked : List ℕ → Answer
asked s =
    pick (eqb (state_in s).number 0)
    (pick (is_held (state_in s).holder) (record { number = 0; a = (state_in s).holder.state.sn; b = small 0 }) (refused 8 0 0))
    (refused (state_in s).number 0 0)
