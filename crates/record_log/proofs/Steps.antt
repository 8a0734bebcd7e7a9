-- One record of a run: a refusal leaves the holder, an acceptance steps it as the unchecked fold does, by the next number. Assumes nothing.
use mathlib.Core.Path.{◌≡◌, refl, sym, ◌∙◌, ap}
use mathlib.Core.Bool.{Bool, true, false}
use mathlib.Core.List.{List, ◌∷◌, []}
use Prim.Native.Nat.{ℕ, zero, suc, ◌+◌}
use native.Mathlib.Omega.{arith}
use borrow.Author.Tests.{eqb-true}
use lib.Dec.{eqb, leb}
use lib.ListN.{length, take, drop}
use Rattle.lists.specs.Lists.{pick, both}
use Rattle.lists.proofs.Facts.{clash}
use Rattle.answer.specs.Answer.{refused, accepted, passes}
use Rattle.state.specs.declared.Holder.{Holder}
use Rattle.state.specs.State.{is_held}
use Rattle.shape.specs.State.{holder_shape}
use Rattle.ingest.specs.declared.Offered.{Offered}
use Rattle.history.proofs.Steps as events
use Rattle.history.proofs.Steps.{expects}
use Rattle.decoded.specs.Decoded.{Shaped}
use Rattle.decoded.proofs.Shapes.{decoded_shape}
use Rattle.decoded.proofs.Gives.{Each}
use Rattle.layout.specs.Records.{Content, event, snapshot, refusal, content_of, First, record_of, truncated, first_of, next_in, mark_of, body_length}
use Rattle.ingest.specs.Judgement.{turned_away}
use Rattle.receive.specs.Received.{taken, unless_bad}
use Rattle.receive.proofs.Laws.{stays_first}
use Rattle.record_log.specs.Log.{records_from, after, answer_at, takes, fold_step, RunsOn}

-- ---- a refusal leaves the holder as it came
pub stays : (h : Holder) (f : First) → takes h f ≡ false → after h f ≡ h
stays h f p = stays_first h 0 f p

-- ---- an acceptance: the holder was of good shape
when_taken : (h : Holder) (x : Offered) → passes (unless_bad h x).answer ≡ true → unless_bad h x ≡ x
when_taken h x p = by_test (eqb (holder_shape h) 0) refl p
  where
    by_test : (t : Bool) → eqb (holder_shape h) 0 ≡ t → passes (pick t x (turned_away h (holder_shape h))).answer ≡ true → pick t x (turned_away h (holder_shape h)) ≡ x
    by_test true e q = refl
    by_test false e q = clash (sym q ∙ e)

module _ (h : Holder) (x : Offered) (p : passes (unless_bad h x).answer ≡ true) where
  taken-passes : passes x.answer ≡ true
  taken-passes = ap (λ (y : Offered). passes y.answer) (sym (when_taken h x p)) ∙ p

  taken_holder : (unless_bad h x).holder ≡ x.holder
  taken_holder = ap (λ (y : Offered). y.holder) (when_taken h x p)

-- the unchecked fold makes the same of it
fold-taken : (h : Holder) (c : Content) (mark next : ℕ) → passes (taken h c).answer ≡ true → (taken h c).holder ≡ fold_step h (record_of mark c next)
fold-taken h (event e) mark next p = events.fold_same h e p
fold-taken h (snapshot s) mark next p = rw p
fold-taken h (refusal n) mark next p = refl

pub fold_same : (h : Holder) (f : First) → takes h f ≡ true → after h f ≡ fold_step h f
fold_same h (record_of mark c next) p = taken_holder h (taken h c) p ∙ fold-taken h c mark next (taken-passes h (taken h c) p)
fold_same h truncated p = taken_holder h (turned_away h 1) p

-- "a and b are 0 for every accepted record"
zero-taken : (h : Holder) (c : Content) → passes (taken h c).answer ≡ true → (taken h c).answer ≡ accepted
zero-taken h (event e) p = events.takes-zero h e p
zero-taken h (snapshot s) p = by_test (is_held h) p
  where
    by_test : (t : Bool) → passes (pick t (refused 5 0 0) accepted) ≡ true → pick t (refused 5 0 0) accepted ≡ accepted
    by_test true q = clash (sym q)
    by_test false q = refl
zero-taken h (refusal n) p = ap (λ (k : ℕ). refused k 0 0) (eqb-true n 0 p)

pub takes-zero : (h : Holder) (f : First) → takes h f ≡ true → answer_at h f ≡ accepted
takes-zero h (record_of mark c next) p =
    ap (λ (y : Offered). y.answer) (when_taken h (taken h c) p) ∙ zero-taken h c (taken-passes h (taken h c) p)
takes-zero h truncated p = clash (sym (taken-passes h (turned_away h 1) p))

-- ---- the numbers
-- what can be said of every record of a byte string
abbrev pub ShapedFirst : First → Type 0
ShapedFirst (record_of mark c next) = Shaped c
ShapedFirst truncated = Unit

pub first-shaped : (s : List ℕ) → ShapedFirst (first_of s)
unfolding first_of
first-shaped s = by_test (both (leb 4 (length s)) (leb (4 + body_length s) (length s)))
  where
    by_test : (t : Bool) → ShapedFirst (pick t (record_of (mark_of s) (content_of (mark_of s) (take (body_length s) (drop 4 s))) (4 + body_length s)) truncated)
    by_test true = decoded_shape (mark_of s) (take (body_length s) (drop 4 s))
    by_test false = tt

pub records_shaped : (n : ℕ) (s : List ℕ) → Each ShapedFirst (records_from n s)
unfolding records_from
records_shaped zero s = tt
records_shaped (suc n) [] = tt
records_shaped (suc n) (x ∷ xs) = (first-shaped (x ∷ xs), records_shaped n (drop (next_in (x ∷ xs) (first_of (x ∷ xs))) (x ∷ xs)))

-- an accepted event has the number that the holder waits for, and the holder then waits for the next one; a snapshot brings its own
module _ (h : Holder) (mark next : ℕ) where
  counts-taken : (c : Content) → Shaped c → passes (taken h c).answer ≡ true → (fs : List First) → RunsOn (expects (taken h c).holder) fs
      → RunsOn (expects h) (record_of mark c next ∷ fs)
  unfolding is_held
  counts-taken (event e) good p fs r = (events.takes-next h e p, rw (events.waits_next h e p) at r)
  counts-taken (snapshot s) good p fs r = rw p at r
  counts-taken (refusal n) good p fs r = let z : n ≡ 0 = eqb-true n 0 p in let two = good.0 in absurd (omega arith)

pub counts_on : (h : Holder) (f : First) → ShapedFirst f → takes h f ≡ true → (fs : List First) → RunsOn (expects (after h f)) fs → RunsOn (expects h) (f ∷ fs)
counts_on h (record_of mark c next) good p fs r =
    let e = taken_holder h (taken h c) p in
    counts-taken h mark next c good (taken-passes h (taken h c) p) fs (rw e at r)
counts_on h truncated good p fs r = clash (sym (taken-passes h (turned_away h 1) p))
