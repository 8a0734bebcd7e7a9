-- A byte string record after record, refused or not, until it ends: what it holds, what each record gets, what is held after it.
use Rattle.std.specs.Prelude.{ℕ, zero, suc, ◌+◌, ◌≡◌, List, [], ◌∷◌, Bool, length, drop}
use Rattle.runs.specs.Runs.{end_of, kept_of, answers_of}
use Rattle.number.specs.Number.{value}
use Rattle.answer.specs.declared.Answer.{Answer}
use Rattle.answer.specs.Answer.{passes}
use Rattle.state.specs.declared.Holder.{Holder}
use Rattle.state.specs.State.{holding}
use Rattle.ingest.specs.declared.Offered.{Offered}
use Rattle.fold.specs.Fold.{folded}
use Rattle.layout.specs.Records.{event, snapshot, refusal, First, record_of, truncated, first_of, next_in}
use Rattle.receive.specs.Received.{first_taken}

-- ---- The records of a byte string
-- "Fewer than 4 bytes left (but some), or a body past the end, is 1 and ends the input .. Otherwise the length leads to the next
-- record, refused or not." Each takes a byte at least, so as many steps as there are bytes are enough
unfoldable pub records_from : ℕ → List ℕ → List First
records_from zero s = []
records_from (suc n) [] = []
records_from (suc n) (x ∷ xs) = first_of (x ∷ xs) ∷ records_from n (drop (next_in (x ∷ xs) (first_of (x ∷ xs))) (x ∷ xs))

abbrev pub records_of : List ℕ → List First
records_of s = records_from (length s) s

-- ---- One record after another
abbrev pub given : Holder → First → Offered
given h f = (first_taken h 0 f).offered

abbrev pub after : Holder → First → Holder
after h f = (given h f).holder

abbrev pub answer_at : Holder → First → Answer
answer_at h f = (given h f).answer

abbrev pub takes : Holder → First → Bool
takes h f = passes (answer_at h f)

-- what is held after all of them; those accepted, in order; the answers, in order
abbrev pub held : Holder → List First → Holder
held h fs = end_of after h fs

abbrev pub kept : Holder → List First → List First
kept h fs = kept_of after takes h fs

abbrev pub answers : Holder → List First → List Answer
answers h fs = answers_of after answer_at h fs

-- ---- Demand 3's words on records
-- the unchecked fold: an event as `folded` has it; a snapshot, which is no event, is where it starts
abbrev pub fold_step : Holder → First → Holder
fold_step h (record_of mark (event e) next) = (folded h e).holder
fold_step h (record_of mark (snapshot s) next) = holding s
fold_step h (record_of mark (refusal n) next) = h
fold_step h truncated = h

abbrev pub fold_all : Holder → List First → Holder
fold_all h fs = end_of fold_step h fs

-- the events' numbers run n, n + 1, n + 2, .. without a gap; a snapshot brings a number of its own, and nothing else is among them
abbrev pub RunsOn : ℕ → List First → Type 0
RunsOn n [] = Unit
RunsOn n (record_of mark (event e) next ∷ fs) = (value e.head.sn ≡ n) × RunsOn (n + 1) fs
RunsOn n (record_of mark (snapshot s) next ∷ fs) = RunsOn (value s.sn + 1) fs
RunsOn n (record_of mark (refusal r) next ∷ fs) = ⊥
RunsOn n (truncated ∷ fs) = ⊥
