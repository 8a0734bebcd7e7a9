-- Steps on the way to what a call leaves, where the state lies in the buffer's bytes. proofs/Answers and proofs/Folds have that they lead to Calls.
use Rattle.std.specs.Prelude.{ℕ, ◌≤◌, List, ltb, eqb, length, take, drop}
use Rattle.lists.specs.Lists.{pick}
use Rattle.answer.specs.declared.Answer.{Answer}
use Rattle.answer.specs.Answer.{accepted, refused}
use Rattle.state.specs.declared.KeyState.{KeyState}
use Rattle.state.specs.State.{holding}
use Rattle.ingest.specs.declared.Offered.{Offered}
use Rattle.record.specs.declared.StateMarks.{StateMarks}
use Rattle.record.specs.Marks.{state_of}
use Rattle.found.specs.Kept.{Kept}
use Rattle.found.specs.Found.{Whole, Small}
use Rattle.in_place.specs.Calls.{Left}

-- "a u16 body length": a body of bytes that is no longer
pub record Body (s : List ℕ) : Type 0 where
  pub long : length s ≤ 65535
  pub small : Small s

-- how much of a body is looked at: the longest legal one has 10,085 bytes
unfoldable pub deciding : ℕ → ℕ
deciding n = pick (ltb n 10086) n 10086

-- the state that the used bytes are the record of
abbrev pub state_at : List ℕ → ℕ → StateMarks → KeyState
state_at buf used m = state_of (drop 4 (take used buf)) m

-- the used bytes are a whole KS record, and the marks are those of its body
pub record Keeps (buf : List ℕ) (used : ℕ) (m : StateMarks) : Type 0 where
  pub within : used ≤ length buf
  pub whole : Whole (take used buf) m

-- an answer, with what the buffer and its used bytes are after it
abbrev pub left : Answer → List ℕ → ℕ → Left
left x buf used = record { answer = x; bytes = buf; used = used }

-- a state that is accepted
abbrev pub took : KeyState → Offered
took s = record { answer = accepted; holder = holding s }

-- what a record that is not read gets: bytes that hold no state come before it
abbrev pub instead_of : Kept → Answer → Answer
instead_of k x = pick (eqb k.number 0) x (refused k.number 0 0)
