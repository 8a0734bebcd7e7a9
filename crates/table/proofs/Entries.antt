-- A property of all numbers to 28, and from 30 to 38, is one of every entry's answers; with 41, also of saving and of the calls on
-- a state in a buffer. Assumes nothing.
use mathlib.Core.List.{List, ◌∷◌, []}
use Prim.Native.Nat.{ℕ, ◌≤◌}
use mathlib.Core.Bool.{Bool}
use native.Mathlib.Omega.{arith}
use lib.Dec.{eqb, leb}
use lib.ListN.{length, take}
use Rattle.lists.specs.Lists.{pick}
use Rattle.runs.specs.Runs.{answers_of}
use Rattle.answer.specs.declared.Answer.{Answer}
use Rattle.answer.specs.Answer.{refused, accepted, passes}
use Rattle.event.specs.declared.Event.{Event}
use Rattle.state.specs.declared.KeyState.{KeyState}
use Rattle.state.specs.declared.Holder.{Holder}
use Rattle.state.specs.State.{is_held, holding}
use Rattle.shape.specs.State.{holder_shape}
use Rattle.ingest.specs.declared.Offered.{Offered}
use Rattle.ingest.specs.Judgement.{turned_away, offered}
use Rattle.lent_state.specs.Ingested.{ingested}
use Rattle.fold.specs.Fold.{folded}
use Rattle.decoded.specs.Decoded.{Shaped}
use Rattle.decoded.proofs.Shapes.{decoded_shape}
use Rattle.decoded.proofs.Gives.{Each}
use Rattle.layout.specs.Records.{Content, event, snapshot, refusal, content_of, First, record_of, truncated, first_of}
use Rattle.receive.specs.Received.{taken, unless_bad, body_taken, first_taken, received}
use Rattle.fold_record.specs.Folded.{fold_taken, body_folded}
use Rattle.writer.specs.Writing.{over}
use Rattle.snapshot.specs.Saved.{saved, encoded}
use Rattle.record_log.specs.Log.{after, answers}
use Rattle.record_log.proofs.Steps.{ShapedFirst, first-shaped}
use Rattle.found.specs.Kept.{Kept, none, one, alone, snapshot_first, state_in, kept_in}
use Rattle.in_place.specs.Calls.{Left, untouched, after_saving, settled_in, on_state, offered_in, body_offered_in, folded_first, folded_in, body_folded_in, asked}
use Rattle.table.proofs.Laws.{pick_in}
use Rattle.table.proofs.Stages.{holder_shape_in, answer_in, fold_answer_in}

module _ (P : ℕ → Type 0) (low : (n : ℕ) → n ≤ 28 → P n) (high : (n : ℕ) → 30 ≤ n → n ≤ 38 → P n) where
  -- ---- structs
  pub offered_in_lem : (h : Holder) (e : Event) → P (offered h e).answer.number
  unfolding offered
  offered_in_lem h e = answer_in P low high h e

  pub ingested_in : (s : KeyState) (e : Event) → P (ingested s e).answer.number
  unfolding ingested
  ingested_in s e = offered_in_lem (holding s) e

  pub folded_in_lem : (h : Holder) (e : Event) → P (folded h e).answer.number
  unfolding folded
  folded_in_lem h e = fold_answer_in P low high h e

  -- ---- bytes: 1 to 4, then what the event gets
  abbrev Good : Offered → Type 0
  Good o = P o.answer.number

  refusal_in : (h : Holder) (n : ℕ) → Shaped (refusal n) → Good (turned_away h n)
  refusal_in h n good = let most = good.1 in low n (omega arith)

  taken_in : (h : Holder) (c : Content) → Shaped c → Good (taken h c)
  taken_in h (event e) good = offered_in_lem h e
  taken_in h (snapshot s) good = pick_in (λ (x : Answer). P x.number) (is_held h) (refused 5 0 0) accepted (low 5 (omega arith)) (low 0 (omega arith))
  taken_in h (refusal n) good = refusal_in h n good

  unless_bad_in : (h : Holder) (o : Offered) → Good o → Good (unless_bad h o)
  unless_bad_in h o p = pick_in Good (eqb (holder_shape h) 0) o _ p (holder_shape_in P low high h)

  pub body_in : (h : Holder) (mark : ℕ) (body : List ℕ) → Good (body_taken h mark body)
  unfolding body_taken
  body_in h mark body = unless_bad_in h _ (taken_in h (content_of mark body) (decoded_shape mark body))

  first_in : (h : Holder) (end : ℕ) (f : First) → ShapedFirst f → Good (first_taken h end f).offered
  first_in h end (record_of mark c next) good = unless_bad_in h (taken h c) (taken_in h c good)
  first_in h end truncated good = unless_bad_in h (turned_away h 1) (low 1 (omega arith))

  pub received_in : (h : Holder) (s : List ℕ) → Good (received h s).offered
  unfolding received
  received_in h s = first_in h (length s) (first_of s) (first-shaped s)

  pub answers_in : (h : Holder) (fs : List First) → Each ShapedFirst fs → Each (λ (x : Answer). P x.number) (answers h fs)
  unfolding answers_of
  answers_in h [] good = tt
  answers_in h (f ∷ fs) good = (first_in h 0 f good.0, answers_in (after h f) fs good.1)

  -- the same unchecked
  fold_taken_in : (h : Holder) (c : Content) → Shaped c → Good (fold_taken h c)
  fold_taken_in h (event e) good = folded_in_lem h e
  fold_taken_in h (snapshot s) good = low 2 (omega arith)
  fold_taken_in h (refusal n) good = refusal_in h n good

  unless_snapshot_in : (h : Holder) (mark : ℕ) (c : Content) → Shaped c → Good (unless_bad h (pick (eqb mark 0x4B53) (turned_away h 2) (fold_taken h c)))
  unless_snapshot_in h mark c good = unless_bad_in h _ (pick_in Good (eqb mark 0x4B53) (turned_away h 2) (fold_taken h c) (low 2 (omega arith)) (fold_taken_in h c good))

  pub body_folded_in_lem : (h : Holder) (mark : ℕ) (body : List ℕ) → Good (body_folded h mark body)
  unfolding body_folded
  body_folded_in_lem h mark body = unless_snapshot_in h mark (content_of mark body) (decoded_shape mark body)

  first_folded_in : (h : Holder) (f : First) → ShapedFirst f → Good (folded_first h f)
  first_folded_in h (record_of mark c next) good = unless_snapshot_in h mark c good
  first_folded_in h truncated good = unless_bad_in h (turned_away h 1) (low 1 (omega arith))

  -- ---- what bytes hold: 0, or 1 to 4
  alone_in : (whole : Bool) (c : Content) → Shaped c → P (alone whole c).number
  alone_in whole (event e) good = low 2 (omega arith)
  alone_in whole (snapshot s) good = pick_in (λ (k : Kept). P k.number) whole (one (holding s)) (none 3) (low 0 (omega arith)) (low 3 (omega arith))
  alone_in whole (refusal n) good = let most = good.1 in low n (omega arith)

  snapshot_first_in : (end : ℕ) (f : First) → ShapedFirst f → P (snapshot_first end f).number
  snapshot_first_in end (record_of mark c next) good =
      pick_in (λ (k : Kept). P k.number) (eqb mark 0x4B53) (alone (eqb next end) c) (none 2) (alone_in (eqb next end) c good) (low 2 (omega arith))
  snapshot_first_in end truncated good = low 1 (omega arith)

  state_in_lem : (s : List ℕ) → P (state_in s).number
  unfolding state_in
  state_in_lem s = pick_in (λ (k : Kept). P k.number) (eqb (length s) 0) (none 0) _ (low 0 (omega arith)) (snapshot_first_in (length s) (first_of s) (first-shaped s))

  kept_in_lem : (buf : List ℕ) (used : ℕ) → P (kept_in buf used).number
  unfolding kept_in
  kept_in_lem buf used = pick_in (λ (k : Kept). P k.number) (leb used (length buf)) _ (none 1) (state_in_lem (take used buf)) (low 1 (omega arith))

  pub asked_in : (s : List ℕ) → P (asked s).number
  unfolding asked
  asked_in s =
      let Q : Answer → Type 0 = λ x. P x.number in
      pick_in Q (eqb (state_in s).number 0) _ _ (pick_in Q (is_held (state_in s).holder) _ (refused 8 0 0) (low 0 (omega arith)) (low 8 (omega arith))) (state_in_lem s)

  -- ---- with 41: saving, and the calls on a state in a buffer
  module _ (room : P 41) where
    pub saved_in : (h : Holder) (buf : List ℕ) → P (saved h buf).0.number
    unfolding saved
    saved_in h buf =
        let Q : Answer × List ℕ → Type 0 = λ r. P r.0.number in
        let whole = length (encoded h.state) in
        pick_in Q (eqb (holder_shape h) 0) _ _
        (pick_in Q (is_held h) _ (refused 8 0 0, buf)
        (pick_in Q (leb whole (length buf)) (refused 0 whole 0, over 0 (encoded h.state) buf) (refused 41 whole 0, buf) (low 0 (omega arith)) room)
        (low 8 (omega arith)))
        (holder_shape_in P low high h)

    abbrev Leaves : Left → Type 0
    Leaves l = P l.answer.number

    after_saving_in : (used : ℕ) (x : Answer) (r : Answer × List ℕ) → P x.number → P r.0.number → Leaves (after_saving used x r)
    after_saving_in used x (y, buf) p q = pick_in Leaves (passes y) (record { answer = x; bytes = buf; used = y.a.low }) (record { answer = y; bytes = buf; used = used }) p q

    settled_in_lem : (buf : List ℕ) (used : ℕ) (o : Offered) → Good o → Leaves (settled_in buf used o)
    unfolding settled_in
    settled_in_lem buf used o p =
        pick_in Leaves (passes o.answer) (after_saving used o.answer (saved o.holder buf)) (untouched buf used o.answer)
        (after_saving_in used o.answer (saved o.holder buf) p (saved_in o.holder buf)) p

    on_state_in : (buf : List ℕ) (used : ℕ) (f : Holder → Offered) → ((h : Holder) → Good (f h)) → Leaves (on_state buf used f (kept_in buf used))
    on_state_in buf used f p =
        let k = kept_in buf used in
        pick_in Leaves (eqb k.number 0) (settled_in buf used (f k.holder)) (untouched buf used (refused k.number 0 0))
        (settled_in_lem buf used (f k.holder) (p k.holder)) (kept_in_lem buf used)

    pub offer_in : (buf : List ℕ) (used : ℕ) (s : List ℕ) → Leaves (offered_in buf used s)
    unfolding offered_in
    offer_in buf used s = on_state_in buf used (λ (h : Holder). (received h s).offered) (λ h. received_in h s)

    pub offer_body_in : (buf : List ℕ) (used mark : ℕ) (body : List ℕ) → Leaves (body_offered_in buf used mark body)
    unfolding body_offered_in
    offer_body_in buf used mark body = on_state_in buf used (λ (h : Holder). body_taken h mark body) (λ h. body_in h mark body)

    pub fold_in : (buf : List ℕ) (used : ℕ) (s : List ℕ) → Leaves (folded_in buf used s)
    unfolding folded_in
    fold_in buf used s = on_state_in buf used (λ (h : Holder). folded_first h (first_of s)) (λ h. first_folded_in h (first_of s) (first-shaped s))

    pub fold_body_in : (buf : List ℕ) (used mark : ℕ) (body : List ℕ) → Leaves (body_folded_in buf used mark body)
    unfolding body_folded_in
    fold_body_in buf used mark body = on_state_in buf used (λ (h : Holder). body_folded h mark body) (λ h. body_folded_in_lem h mark body)
