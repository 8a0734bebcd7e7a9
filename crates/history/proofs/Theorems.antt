-- Demand 3 on events: what holds of every finite list of offered events, refused ones, delegated ones and repeats among them. Assumes nothing.
--     held_is_fold     the held state is the unchecked fold of exactly the accepted ones
--     no_gap           from an empty holder their numbers are 0, 1, 2, ..
--     struck_out       with the refused ones struck out the same is held, so every later answer is the same (later_answers),
--     all-accepted     and each of the others is accepted again
use mathlib.Core.Path.{◌≡◌, refl, ◌∙◌, ap}
use mathlib.Core.List.{List, ◌∷◌, []}
use mathlib.Core.Bool.{Bool, true, false}
use Prim.Native.Nat.{ℕ}
use lib.ListN.{length, replicate}
use Rattle.lists.specs.Lists.{pick}
use Rattle.answer.specs.Answer.{accepted}
use Rattle.event.specs.declared.Event.{Event}
use Rattle.state.specs.declared.Holder.{Holder}
use Rattle.state.specs.State.{is_held}
use Rattle.empty.specs.Empty.{nothing}
use Rattle.runs.specs.Runs.{kept_of}
use Rattle.runs.proofs.Theorems as runs
use Rattle.history.specs.History.{after, takes, held, kept, answer_at, answers, fold_step, fold_all, numbers, count_from}
use Rattle.history.proofs.Steps.{stays, fold_same, expects, takes-next, waits_next, takes-zero}

pub held_is_fold : (h : Holder) (es : List Event) → held h es ≡ fold_all h (kept h es)
held_is_fold h es = runs.held_is_fold after takes stays fold_step fold_same h es

numbered : (h : Holder) (es : List Event) → numbers (kept h es) ≡ count_from (expects h) (kept h es)
unfolding kept_of numbers count_from
numbered h [] = refl
numbered h (e ∷ es) = by_test (takes h e) refl (numbered (after h e) es)
  where
    by_test : (t : Bool) → takes h e ≡ t → numbers (kept (after h e) es) ≡ count_from (expects (after h e)) (kept (after h e) es)
        → numbers (pick t (e ∷ kept (after h e) es) (kept (after h e) es)) ≡ count_from (expects h) (pick t (e ∷ kept (after h e) es) (kept (after h e) es))
    by_test true p ih = rw (takes-next h e p) (ap (λ (ns : List ℕ). expects h ∷ ns) (ih ∙ ap (λ (n : ℕ). count_from n (kept (after h e) es)) (waits_next h e p)))
    by_test false p ih = ih ∙ ap (λ (x : Holder). count_from (expects x) (kept (after h e) es)) (stays h e p)

pub no_gap : (es : List Event) → numbers (kept nothing es) ≡ count_from 0 (kept nothing es)
unfolding is_held
no_gap es = numbered nothing es

pub struck_out : (h : Holder) (es : List Event) → held h (kept h es) ≡ held h es
struck_out h es = runs.struck_out after takes stays h es

pub later_answers : (h : Holder) (es later : List Event) → answers (held h (kept h es)) later ≡ answers (held h es) later
later_answers h es later = runs.later_answers after takes stays answer_at h es later

pub all-accepted : (h : Holder) (es : List Event) → answers h (kept h es) ≡ replicate (length (kept h es)) accepted
all-accepted h es = runs.all-taken after takes stays answer_at accepted takes-zero h es
