-- Demands 1 and 3 on bytes: what holds of every byte string, whatever is in it. proofs/Saved has saving and reading back. Assumes nothing.
--     refusal_stays    a refusal leaves the holder as it came
--     held_is_fold     the held state is the unchecked fold of exactly the accepted records
--     no_gap           the accepted events' numbers run on without a gap: from an empty holder 0, 1, 2, ..
--     struck_out       with the refused ones struck out the same is held, so every later answer is the same (later_answers),
--     all-accepted     and each of the others is accepted again
--     by_parts, first_bytes_decide, cut_short     what a reader may do that holds only a part of a long record
use mathlib.Core.Path.{◌≡◌, refl, sym, ap}
use mathlib.Core.Bool.{Bool, true, false}
use mathlib.Core.List.{List, ◌∷◌, []}
use Prim.Native.Nat.{ℕ, ◌+◌, ◌≤◌}
use borrow.Author.Tests.{le-leb, lt-leb, ltb-true, ltb-false}
use lib.Dec.{ltb}
use lib.ListN.{length, take, drop, replicate}
use Rattle.lists.specs.Lists.{pick, either}
use Rattle.lists.proofs.Facts.{clash}
use Rattle.runs.specs.Runs.{kept_of}
use Rattle.runs.proofs.Theorems as runs
use Rattle.answer.specs.Answer.{accepted, passes}
use Rattle.state.specs.declared.Holder.{Holder}
use Rattle.state.specs.State.{is_held}
use Rattle.empty.specs.Empty.{nothing}
use Rattle.decoded.proofs.Gives.{Each}
use Rattle.history.proofs.Steps.{expects}
use Rattle.ingest.specs.Judgement.{turned_away}
use Rattle.layout.specs.Records.{Content, First, first_of, mark_of, body_length}
use Rattle.decoded.proofs.Bound.{first-bytes}
use Rattle.receive.specs.Received.{taken, unless_bad, body_taken, received}
use Rattle.receive.proofs.Laws.{stays_received}
use Rattle.record_log.specs.Log.{records_of, after, answer_at, takes, held, kept, answers, fold_step, fold_all, RunsOn}
use Rattle.record_log.proofs.Steps.{stays, fold_same, takes-zero, ShapedFirst, records_shaped, counts_on}

pub refusal_stays : (h : Holder) (s : List ℕ) → passes (received h s).offered.answer ≡ false → (received h s).offered.holder ≡ h
refusal_stays = stays_received

module _ (h : Holder) (s : List ℕ) where
  pub held_is_fold : held h (records_of s) ≡ fold_all h (kept h (records_of s))
  held_is_fold = runs.held_is_fold after takes stays fold_step fold_same h (records_of s)

  pub struck_out : held h (kept h (records_of s)) ≡ held h (records_of s)
  struck_out = runs.struck_out after takes stays h (records_of s)

  pub later_answers : (later : List ℕ) → answers (held h (kept h (records_of s))) (records_of later) ≡ answers (held h (records_of s)) (records_of later)
  later_answers later = runs.later_answers after takes stays answer_at h (records_of s) (records_of later)

  pub all-accepted : answers h (kept h (records_of s)) ≡ replicate (length (kept h (records_of s))) accepted
  all-accepted = runs.all-taken after takes stays answer_at accepted takes-zero h (records_of s)

numbered : (h : Holder) (fs : List First) → Each ShapedFirst fs → RunsOn (expects h) (kept h fs)
unfolding kept_of
numbered h [] good = tt
numbered h (f ∷ fs) good = by_test (takes h f) refl (numbered (after h f) fs good.1)
  where
    by_test : (t : Bool) → takes h f ≡ t → RunsOn (expects (after h f)) (kept (after h f) fs)
        → RunsOn (expects h) (pick t (f ∷ kept (after h f) fs) (kept (after h f) fs))
    by_test true p ih = counts_on h f good.0 p (kept (after h f) fs) ih
    by_test false p ih = let e : expects (after h f) ≡ expects h = ap expects (stays h f p) in rw e at ih

pub no_gap : (h : Holder) (s : List ℕ) → RunsOn (expects h) (kept h (records_of s))
no_gap h s = numbered h (records_of s) (records_shaped (length s) s)

pub no_gap_from_nothing : (s : List ℕ) → RunsOn 0 (kept nothing (records_of s))
unfolding is_held
no_gap_from_nothing s = no_gap nothing s

-- ---- A record in parts, for a reader that holds only a part of it
-- a whole record gets what its body gets by its mark, and leads to the next by its length
pub by_parts : (h : Holder) (s : List ℕ) → 4 ≤ length s → 4 + body_length s ≤ length s
    → received h s ≡ record { offered = body_taken h (mark_of s) (take (body_length s) (drop 4 s)); mark = mark_of s; next = 4 + body_length s }
unfolding received first_of body_taken
by_parts h s p q = rw (le-leb 4 (length s) p, le-leb (4 + body_length s) (length s) q)

-- of a long body the first 10,086 bytes decide, so the rest may be stepped over
pub first_bytes_decide : (h : Holder) (mark n : ℕ) (body : List ℕ) → 10086 ≤ n → n ≤ length body → body_taken h mark (take n body) ≡ body_taken h mark body
unfolding body_taken
first_bytes_decide h mark n body p q = ap (λ (c : Content). unless_bad h (taken h c)) (first-bytes mark n body p q)

-- 1 where the input ends before the record does
pub cut_short : (h : Holder) (s : List ℕ) → either (ltb (length s) 4) (ltb (length s) (4 + body_length s)) ≡ true
    → received h s ≡ record { offered = unless_bad h (turned_away h 1); mark = 0; next = length s }
unfolding received first_of
cut_short h s e = by_test (ltb (length s) 4) refl (ltb (length s) (4 + body_length s)) refl e
  where
    by_test : (t : Bool) → ltb (length s) 4 ≡ t → (u : Bool) → ltb (length s) (4 + body_length s) ≡ u → either t u ≡ true
        → received h s ≡ record { offered = unless_bad h (turned_away h 1); mark = 0; next = length s }
    by_test true p u q r = rw (lt-leb 4 (length s) (ltb-true (length s) 4 p))
    by_test false p true q r =
        let four : 4 ≤ length s = ltb-false (length s) 4 p in
        rw (le-leb 4 (length s) four, lt-leb (4 + body_length s) (length s) (ltb-true (length s) (4 + body_length s) q))
    by_test false p false q r = clash (sym r)
