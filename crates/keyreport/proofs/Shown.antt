-- The program's step is the report's. Let s be the input from the record's first byte on, and let the window show its first bytes.
-- Then the line that the program writes for the record in the window, the tally and the state after it are those of s's report.
-- Runs says so of a whole run. Assumes nothing.
--     step_shown                   the record in the window, for a holder
--     answer_shown, state_shown    the call on the state's bytes, beside the holder's; cut_shown: where the input ends
use Rattle.std.proofs.Common.{◌≡◌, refl, sym, ap, ◌∙◌, List, ◌++◌, inl, inr, Bool, true, false, ℕ, suc, ◌+◌, ◌-◌, ◌≤◌, ◌<◌, add-zero, arith, leb, length, take, drop, get_or, length-drop, get_or-drop, get_or-take, drop-drop, le-leb, leb-false, []}
use Rattle.state.specs.declared.Holder.{Holder}
use Rattle.empty.specs.Empty.{nothing}
use Rattle.layout.specs.Records.{mark_of, body_length}
use Rattle.canonical.specs.Bytes.{Bytes}
use Rattle.receive.specs.Received.{body_taken}
use Rattle.report.specs.declared.Tally.{Tally}
use Rattle.found.specs.Kept.{one, state_in, kept_in}
use Rattle.in_place.specs.Calls.{body_offered_in, offered_in}
use Rattle.in_place.proofs.Theorems.{body_answer, body_kept, offer-answer}
use Rattle.report.specs.Report.{counted, line_of, cut_answer, reported}
use Rattle.report.proofs.Stream.{Whole, Enough, record-step}
use Rattle.stream.specs.declared.Span.{Span}
use Rattle.stream.specs.declared.Place.{Place}
use Rattle.stream.specs.Window.{size_of, kept_of, Stands}
use Rattle.stream.proofs.Laws.{taken_less, part_same, same_size}
use Rattle.keyreport.specs.Run.{mark_at, body_at}

module _ (before : List ℕ) (old : Span) (w : List ℕ) (p : Place) (st : Stands before old w p) (large : 10090 < length w) (s : List ℕ) (whole : Whole s) (shown : take (p.to - p.from) (drop p.from w) ≡ take (p.to - p.from) s) where
  -- how many bytes of the body stand in the window
  abbrev count : ℕ
  count = p.to - (p.from + 4)

  same_byte : (i : ℕ) → i < 4 → get_or (drop p.from w) i 0 ≡ get_or s i 0
  same_byte i h =
      let b = st.begins in
      let l : i < p.to - p.from = omega arith in
      sym (get_or-take (p.to - p.from) (drop p.from w) i 0 l)
      ∙ ap (λ (xs : List ℕ). get_or xs i 0) shown
      ∙ get_or-take (p.to - p.from) s i 0 l

  mark : mark_at w p ≡ mark_of s
  mark =
      let x : get_or w (p.from + 0) 0 ≡ get_or s 0 0 = sym (get_or-drop p.from w 0 0) ∙ same_byte 0 (omega arith) in
      let y : get_or w (p.from + 1) 0 ≡ get_or s 1 0 = sym (get_or-drop p.from w 1 0) ∙ same_byte 1 (omega arith) in
      let z : get_or w p.from 0 ≡ get_or s 0 0 = rw (add-zero p.from) at x in
      rw (y, z)

  body : body_at w p ≡ take count (drop 4 s)
  body =
      let b = st.begins in
      let o = st.ordered in
      let i = st.within in
      let n : 4 ≤ length (drop p.from w) = simp length-drop (omega arith) in
      let e : take count (drop 4 (drop p.from w)) ≡ take count (drop 4 s) =
      part_same (drop p.from w) s 4 count (p.to - p.from) n whole.0 (omega arith) shown in
      rw (drop-drop 4 p.from w) at e

  size : size_of (drop p.from w) ≡ size_of s
  size =
      let b = st.begins in
      same_size (drop p.from w) s (taken_less (drop p.from w) s 4 (p.to - p.from) (omega arith) shown)

  enough : Enough count s
  enough = go (leb (size_of (drop p.from w)) (length w)) refl
    where
      go : (t : Bool) → leb (size_of (drop p.from w)) (length w) ≡ t → Enough count s
      go true e =
          let k : kept_of (length w) (drop p.from w) ≡ size_of (drop p.from w) = rw e in
          let f : p.to ≡ p.from + size_of s = st.whole ∙ ap (λ (n : ℕ). p.from + n) (k ∙ size) in
          inl (omega (arith, f))
      go false e =
          let k : kept_of (length w) (drop p.from w) ≡ 10090 = rw e in
          let f : p.to ≡ p.from + 10090 = st.whole ∙ ap (λ (n : ℕ). p.from + n) k in
          let g : length w < size_of (drop p.from w) = leb-false (size_of (drop p.from w)) (length w) e in
          let i : length w < size_of s = rw size at g in
          inr (omega (arith, f), omega (arith, f, i))

  pub step_shown : (n : ℕ) (t : Tally) (h : Holder)
      → reported (suc n) t h s
      ≡ line_of t (mark_at w p) (body_taken h (mark_at w p) (body_at w p)).answer
      ++ reported n (counted t (body_taken h (mark_at w p) (body_at w p)).answer) (body_taken h (mark_at w p) (body_at w p)).holder (drop (4 + body_length s) s)
  step_shown n t h = rw (mark, body) (record-step n t h s count whole enough)

-- The state stays bytes: `buf` with `used` of them, which hold h. What the call answers, and what the bytes hold after it, are
-- those of the report's step. A byte is below 256, so both hypotheses about bytes hold of every buffer.
module _ (buf : List ℕ) (used : ℕ) (bytes : Bytes buf) (large : 2285 ≤ length buf) (good : (kept_in buf used).number ≡ 0) where
  abbrev held : Holder
  held = (kept_in buf used).holder

  module _ (mark : ℕ) (body : List ℕ) (input : Bytes body) where
    pub answer_shown : (body_offered_in buf used mark body).answer ≡ (body_taken held mark body).answer
    answer_shown = body_answer buf used mark body bytes input good large

    pub state_shown : kept_in (body_offered_in buf used mark body).bytes (body_offered_in buf used mark body).used ≡ one (body_taken held mark body).holder
    state_shown = body_kept buf used mark body bytes input good large

  -- bytes that are no record get what no bytes get
  pub cut_shown : (offered_in buf used []).answer ≡ cut_answer held
  cut_shown = offer-answer buf used [] bytes tt good large

-- the buffer that the program begins with holds nothing
pub begins : (buf : List ℕ) → kept_in buf 0 ≡ one nothing
unfolding kept_in state_in
begins buf = rw (le-leb 0 (length buf) (omega arith))
