-- From the frame and the scans to what bytes hold. Assumes nothing.
use mathlib.Core.Path.{◌≡◌, sym, ◌∙◌, ap}
use mathlib.Core.Bool.{Bool, true, false}
use mathlib.Core.List.{List}
use Prim.Native.Nat.{ℕ, ◌+◌, ◌-◌, ◌<◌, ◌≤◌}
use native.Mathlib.Nat.{sub-zero}
use native.Mathlib.Omega.{arith}
use borrow.Author.Tests.{eq-eqb, ne_eqb, le-leb, lt-leb}
use lib.Dec.{eqb, leb}
use lib.ListN.{length, take, drop, length-drop}
use lib.Seq.{take_all}
use Rattle.std.specs.Prelude.{Option, Some, None, Result, Ok, Err}
use Rattle.lists.specs.Lists.{pick, both}
use Rattle.lists.proofs.Facts.{clash}
use Rattle.answer.specs.declared.Refusal.{Refusal}
use Rattle.answer.specs.Refusal.{answer_of}
use Rattle.state.specs.State.{holding}
use Rattle.format.specs.Parse.{Parse, got, bad, num_at}
use Rattle.cursor.specs.Spans.{mapped}
use Rattle.cursor.proofs.Laws.{Pair, pair_got, pair_short}
use Rattle.layout.specs.Records.{Content, as_snapshot, content_of, First, record_of, truncated, first_of, mark_of, body_length}
use Rattle.record.specs.declared.StateMarks.{StateMarks}
use Rattle.record.specs.Marks.{snapshot_places, state_of}
use Rattle.record.proofs.Laws.{snapshot_read}
use Rattle.found.specs.Kept.{none, one, alone, snapshot_first, state_in, kept_in}
use Rattle.found.specs.Found.{Small, kept_is, Whole}

-- ---- the frame: mark, length, body
module _ (s : List ℕ) where
  few_bytes : length s < 4 → truncated ≡ first_of s
  unfolding first_of
  few_bytes p = rw (lt-leb 4 (length s) p)

  pub cut_in_mark : (k : ℕ) → bad k ≡ num_at 2 s 0 → truncated ≡ first_of s
  cut_in_mark k e = let p = pair_short s 0 k e in few_bytes (omega arith)

  pub cut_in_length : (k mark at : ℕ) → bad k ≡ num_at 2 s at → got mark at ≡ num_at 2 s 0 → truncated ≡ first_of s
  cut_in_length k mark at e m =
      let p = pair_short s at k e in
      let two = (pair_got s 0 mark at m).behind in
      few_bytes (omega arith)

  -- mark and length were read, one behind the other
  module _ (mark at n body : ℕ) (pn : got n body ≡ num_at 2 s at) (pm : got mark at ≡ num_at 2 s 0) where
    frame : (at ≡ 2) × ((body ≡ 4) × (body ≤ length s))
    frame =
        let m = pair_got s 0 mark at pm in
        let l = pair_got s at n body pn in
        let two = m.behind in
        let four = l.behind in
        let room = l.within in
        (omega arith, (omega arith, omega arith))

    pub body_place : body ≡ 4
    body_place = frame.1.0

    pub body_within : body ≤ length s
    body_within = frame.1.1

    sized : n ≡ body_length s
    sized = rw frame.0 at (pair_got s at n body pn).is

    pub cut_in_body : length s < body + n → truncated ≡ first_of s
    unfolding first_of
    cut_in_body p =
        let f = frame in
        let l : 4 ≤ length s = omega arith in
        let q : length s < 4 + n = omega arith in
        rw (le-leb 4 (length s) l, ← sized, lt-leb (4 + n) (length s) q)

    pub record_had : body + n ≤ length s → record_of mark (content_of mark (take (body + n - 4) (drop 4 s))) (body + n) ≡ first_of s
    unfolding first_of
    record_had p =
        let f = frame in
        let l : 4 ≤ length s = omega arith in
        let q : 4 + n ≤ length s = omega arith in
        let k : 4 + n - 4 ≡ n = omega arith in
        rw (body_place, le-leb 4 (length s) l, ← sized, le-leb (4 + n) (length s) q, ← (pair_got s 0 mark at pm).is, k)

pub ruleset framing = (cut_in_mark, cut_in_length, body_place, body_within, cut_in_body, record_had)

-- a record that is had has the frame's mark and length
frame_told : (b : Bool) (m k n l : ℕ) (c d : Content) → record_of m c n ≡ pick b (record_of k d l) truncated → (m ≡ k) × (n ≡ l)
frame_told true m k n l c d e = (cc, cc)
frame_told false m k n l c d e = (cc, cc)

first_told : (s : List ℕ) (m n : ℕ) (c : Content) → record_of m c n ≡ first_of s → (m ≡ mark_of s) × (n ≡ 4 + body_length s)
unfolding first_of
first_told s m n c e = frame_told (both (leb 4 (length s)) (leb (4 + body_length s) (length s))) m (mark_of s) n (4 + body_length s) c _ e

-- ---- what bytes hold
all_of : (s : List ℕ) (next : ℕ) → next ≡ length s → take (next - 4) (drop 4 s) ≡ drop 4 s
all_of s next end = take_all (next - 4) (drop 4 s) (rw (length-drop 4 s) (omega arith))

pub state_empty : (s : List ℕ) → length s ≡ 0 → none 0 ≡ state_in s
unfolding state_in
state_empty s e = rw (eq-eqb (length s) 0 e)

module _ (s : List ℕ) (some : length s ≡ 0 → ⊥) where
  by_first : (f : First) → f ≡ first_of s → snapshot_first (length s) f ≡ state_in s
  unfolding state_in
  by_first f e = rw (ne_eqb (length s) 0 some, ← e)

  pub state_cut : truncated ≡ first_of s → none 1 ≡ state_in s
  state_cut e = by_first truncated e

  module _ (mark next : ℕ) (e : record_of mark (content_of mark (take (next - 4) (drop 4 s))) next ≡ first_of s) where
    pub state_other : (mark ≡ 0x4B53 → ⊥) → none 2 ≡ state_in s
    state_other ne =
        let h : snapshot_first (length s) (record_of mark (content_of mark (take (next - 4) (drop 4 s))) next) ≡ state_in s = by_first _ e in
        rw (ne_eqb mark 0x4B53 ne) at h

    -- the body's places are read: by value it is what the layout reads
    module _ (ks : mark ≡ 0x4B53) where
      state_alone : (q : Parse StateMarks) → q ≡ snapshot_places (take (next - 4) (drop 4 s)) 0
          → alone (eqb next (length s)) (as_snapshot (mapped (state_of (take (next - 4) (drop 4 s))) q)) ≡ state_in s
      unfolding content_of
      state_alone q is =
          let h : record_of 0x4B53 (content_of 0x4B53 (take (next - 4) (drop 4 s))) next ≡ first_of s = rw ks at e in
          rw (snapshot_read (take (next - 4) (drop 4 s)) 0 q is) (by_first _ h)

      pub state_refused : (k : ℕ) → bad k ≡ snapshot_places (take (next - 4) (drop 4 s)) 0 → none k ≡ state_in s
      state_refused k is = state_alone (bad k) is

      module _ (m : StateMarks) (n : ℕ) (is : got m n ≡ snapshot_places (take (next - 4) (drop 4 s)) 0) where
        pub state_over : (next ≡ length s → ⊥) → none 3 ≡ state_in s
        state_over ne = rw (ne_eqb next (length s) ne) at (state_alone (got m n) is)

        pub state_had : next ≡ length s → one (holding (state_of (drop 4 s) m)) ≡ state_in s
        state_had end = rw (eq-eqb next (length s) end, all_of s next end) at (state_alone (got m n) is)

-- nothing behind the record: it is all of the bytes
pub state_whole : (s : List ℕ) (m : StateMarks) (n mark next : ℕ) → got m n ≡ snapshot_places (take (next - 4) (drop 4 s)) 0 → next ≡ length s → mark ≡ 0x4B53
    → (4 ≤ next) × ((next ≤ length s) × Small s) → record_of mark (content_of mark (take (next - 4) (drop 4 s))) next ≡ first_of s → Whole s m
state_whole s m n mark next is end ks within e =
    let framed : (mark ≡ mark_of s) × (next ≡ 4 + body_length s) = first_told s mark next _ e in
    record {
      four = rw end at within.0;
      marked = sym framed.0 ∙ ks;
      sized = sym framed.1 ∙ end;
      small = within.1.1;
      scanned = record { next = n; is = sym (rw (all_of s next end) at is) };
    }

pub ruleset keeping = (state_empty, state_cut, state_other, state_refused, state_over, state_had, state_whole)

-- ---- a buffer and how much of it is used
module _ (buf : List ℕ) (used : ℕ) where
  pub kept_over : length buf < used → none 1 ≡ kept_in buf used
  unfolding kept_in
  kept_over p = rw (lt-leb used (length buf) p)

  pub kept_within : (x : Result (Option StateMarks) Refusal) → kept_is (take used buf) x ≡ state_in (take used buf) → used ≤ length buf → kept_is (take used buf) x ≡ kept_in buf used
  unfolding kept_in
  kept_within x e p = rw (le-leb used (length buf) p) e
