-- The steps of a report: what is told of the bytes that a window shows is what the report of the whole byte string says next.
-- Assumes nothing.
--     record-step   a record: all of its body, or the first 10,086 bytes of a longer one, "decided by its first bytes and stepped over"
--     cut_step      bytes that are no record: 1, and the last line
--     end_step      nothing left: the last line
use mathlib.Core.Path.{◌≡◌, refl, sym, ap, ◌∙◌}
use mathlib.Core.List.{List, ◌∷◌, ◌++◌, []}
use mathlib.Core.Bool.{Bool, true, false}
use mathlib.Core.Logic.{◌⊎◌, ⊎_elim}
use Prim.Native.Nat.{ℕ, suc, ◌+◌, ◌≤◌, ◌<◌}
use native.Mathlib.Nat.{not-suc-le-zero}
use native.Mathlib.Omega.{arith}
use lib.Dec.{leb, eqb}
use lib.ListN.{length, take, drop, length-take, length-drop}
use lib.Seq.{take-take, drop-length}
use borrow.Author.Tests.{le-leb, lt-leb}
use Rattle.lists.specs.Lists.{pick, both}
use Rattle.state.specs.declared.Holder.{Holder}
use Rattle.shape.specs.State.{holder_shape}
use Rattle.layout.specs.Records.{Content, record_of, truncated, content_of, first_of, mark_of, body_length}
use Rattle.decoded.proofs.Bound.{first-bytes}
use Rattle.ingest.specs.Judgement.{turned_away}
use Rattle.receive.specs.Received.{taken, unless_bad, body_taken, received}
use Rattle.report.specs.declared.Tally.{Tally}
use Rattle.report.specs.Report.{counted, line_of, last_line, cut_answer, reported}

-- a byte string that begins with a whole record
abbrev pub Whole : List ℕ → Type 0
Whole s = (4 ≤ length s) × (4 + body_length s ≤ length s)

-- "Fewer than 4 bytes left (but some), or a body past the end"
abbrev pub Cut : List ℕ → Type 0
Cut s = (length s < 4) ⊎ (length s < 4 + body_length s)

-- k bytes of the body: all, or those that decide
abbrev pub Enough : ℕ → List ℕ → Type 0
Enough k s = (k ≡ body_length s) ⊎ ((10086 ≤ k) × (k ≤ body_length s))

whole_received : (h : Holder) (s : List ℕ) → Whole s
    → received h s ≡ record { offered = body_taken h (mark_of s) (take (body_length s) (drop 4 s)); mark = mark_of s; next = 4 + body_length s }
unfolding received first_of body_taken
whole_received h s w = rw (le-leb 4 (length s) w.0, le-leb (4 + body_length s) (length s) w.1)

-- bytes that are no record
none : first_of [] ≡ truncated
unfolding first_of
none = refl

cut-received : (h : Holder) (s : List ℕ) → first_of s ≡ truncated → received h s ≡ record { offered = (received h []).offered; mark = 0; next = length s }
unfolding received
cut-received h s e = rw (e, none)

no_head_lem : (s : List ℕ) → length s < 4 → first_of s ≡ truncated
unfolding first_of
no_head_lem s h = rw (lt-leb 4 (length s) h)

no_body_lem : (s : List ℕ) → length s < 4 + body_length s → first_of s ≡ truncated
unfolding first_of
no_body_lem s h = rw (lt-leb (4 + body_length s) (length s) h) (go (leb 4 (length s)))
  where
    go : (t : Bool) → pick (both t false) (record_of (mark_of s) (content_of (mark_of s) (take (body_length s) (drop 4 s))) (4 + body_length s)) truncated ≡ truncated
    go true = refl
    go false = refl

-- the deciding bytes get the answer of all
decides : (h : Holder) (s : List ℕ) (k : ℕ) → Whole s → Enough k s
    → body_taken h (mark_of s) (take k (drop 4 s)) ≡ body_taken h (mark_of s) (take (body_length s) (drop 4 s))
unfolding body_taken
decides h s k w e = ⊎_elim all first e
  where
    all : k ≡ body_length s → body_taken h (mark_of s) (take k (drop 4 s)) ≡ body_taken h (mark_of s) (take (body_length s) (drop 4 s))
    all z = ap (λ (n : ℕ). body_taken h (mark_of s) (take n (drop 4 s))) z

    first : (10086 ≤ k) × (k ≤ body_length s) → body_taken h (mark_of s) (take k (drop 4 s)) ≡ body_taken h (mark_of s) (take (body_length s) (drop 4 s))
    first f =
        let n : length (take (body_length s) (drop 4 s)) ≡ body_length s = simp (length-take, length-drop) (omega (arith, w.0, w.1)) in
        let b : content_of (mark_of s) (take k (take (body_length s) (drop 4 s))) ≡ content_of (mark_of s) (take (body_length s) (drop 4 s)) =
        first-bytes (mark_of s) k (take (body_length s) (drop 4 s)) f.0 (rw n f.1) in
        let c : content_of (mark_of s) (take k (drop 4 s)) ≡ content_of (mark_of s) (take (body_length s) (drop 4 s)) =
        ap (content_of (mark_of s)) (sym (take-take k (body_length s) (drop 4 s) f.1)) ∙ b in
        ap (λ (x : Content). unless_bad h (taken h x)) c

-- ---- The steps
next-line : (n : ℕ) (t : Tally) (h : Holder) (s : List ℕ) → 0 < length s
    → reported (suc n) t h s
    ≡ line_of t (received h s).mark (received h s).offered.answer
    ++ reported n (counted t (received h s).offered.answer) (received h s).offered.holder (drop (received h s).next s)
unfolding reported
next-line n t h [] l = absurd (not-suc-le-zero l)
next-line n t h (b ∷ s) l = refl

pub record-step : (n : ℕ) (t : Tally) (h : Holder) (s : List ℕ) (k : ℕ) → Whole s → Enough k s
    → reported (suc n) t h s
    ≡ line_of t (mark_of s) (body_taken h (mark_of s) (take k (drop 4 s))).answer
    ++ reported
    n
    (counted t (body_taken h (mark_of s) (take k (drop 4 s))).answer)
    (body_taken h (mark_of s) (take k (drop 4 s))).holder
    (drop (4 + body_length s) s)
record-step n t h s k w e = rw (next-line n t h s (omega (arith, w.0)), whole_received h s w, decides h s k w e)

pub cut_step : (n : ℕ) (t : Tally) (h : Holder) (s : List ℕ) → 0 < length s → Cut s
    → reported (suc (suc n)) t h s ≡ line_of t 0 (cut_answer h) ++ last_line (counted t (cut_answer h)) (received h []).offered.holder
unfolding reported
cut_step n t h s l c =
    let e : first_of s ≡ truncated = ⊎_elim (no_head_lem s) (no_body_lem s) c in
    rw (next-line (suc n) t h s l, cut-received h s e, drop-length s)

-- "Every refusal leaves state and buffers untouched."
pub cut_keeps : (h : Holder) → (received h []).offered.holder ≡ h
unfolding received
cut_keeps h = rw none (go (eqb (holder_shape h) 0))
  where
    go : (g : Bool) → (pick g (turned_away h 1) (turned_away h (holder_shape h))).holder ≡ h
    go true = refl
    go false = refl

pub end_step : (n : ℕ) (t : Tally) (h : Holder) → reported (suc n) t h [] ≡ last_line t h
unfolding reported
end_step n t h = refl
