-- "Offer events to an empty holder, refused ones among them." What is held after a list of events, which of them were accepted,
-- what each was answered, and the unchecked fold of a list.
use Rattle.std.specs.Prelude.{ℕ, ◌+◌, List, [], ◌∷◌, Bool}
use Rattle.runs.specs.Runs.{end_of, kept_of, answers_of}
use Rattle.number.specs.Number.{value}
use Rattle.answer.specs.declared.Answer.{Answer}
use Rattle.answer.specs.Answer.{passes}
use Rattle.event.specs.declared.Event.{Event}
use Rattle.state.specs.declared.Holder.{Holder}
use Rattle.ingest.specs.Judgement.{offered}
use Rattle.fold.specs.Fold.{folded}

abbrev pub after : Holder → Event → Holder
after h e = (offered h e).holder

abbrev pub takes : Holder → Event → Bool
takes h e = passes (offered h e).answer

-- what is held after all of them; those that were accepted, in order; the answers, in order
abbrev pub held : Holder → List Event → Holder
held h es = end_of after h es

abbrev pub kept : Holder → List Event → List Event
kept h es = kept_of after takes h es

abbrev pub answer_at : Holder → Event → Answer
answer_at h e = (offered h e).answer

abbrev pub answers : Holder → List Event → List Answer
answers h es = answers_of after answer_at h es

-- the unchecked fold of all of them
abbrev pub fold_step : Holder → Event → Holder
fold_step h e = (folded h e).holder

abbrev pub fold_all : Holder → List Event → Holder
fold_all h es = end_of fold_step h es

-- the events' numbers
unfoldable pub numbers : List Event → List ℕ
numbers [] = []
numbers (e ∷ es) = value e.head.sn ∷ numbers es

-- n, n + 1, n + 2, ..: as many as there are events
unfoldable pub count_from : ℕ → List Event → List ℕ
count_from n [] = []
count_from n (e ∷ es) = n ∷ count_from (n + 1) es
