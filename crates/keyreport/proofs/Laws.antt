-- Lines in the output buffer. Assumes nothing.
use Rattle.std.proofs.Common.{◌≡◌, refl, sym, ap, List, ◌++◌, ℕ, ◌+◌, ◌≤◌, arith, append_assoc, length, take, length-append, length-take-le, take_at, le-leb}
use Rattle.answer.specs.declared.Answer.{Answer}
use Rattle.state.specs.declared.Holder.{Holder}
use Rattle.state.specs.State.{is_held}
use Rattle.writer.specs.Writing.{over}
use Rattle.lines.specs.Lines.{longest, written}
use Rattle.lines.proofs.Laws.{line_few, end_few}
use Rattle.report.specs.declared.Tally.{Tally}
use Rattle.report.specs.declared.Told.{Told}
use Rattle.report.specs.Report.{one_more, counted, line_of, last_line, told}

pub prefix_length : (at : ℕ) (xs : List ℕ) → at ≤ length xs → at ≡ length (take at xs)
prefix_length at xs h = sym (length-take-le at xs h)

-- ---- A line ends inside the buffer
written_in : (xs : List ℕ) (at : ℕ) (out : List ℕ) → length xs ≤ longest → at + longest ≤ length out → (written xs at out).0 ≤ length out
unfolding written
written_in xs at out h k = rw (le-leb (at + longest) (length out) k) (omega arith)

pub told_in : (t : Tally) (mark : ℕ) (x : Answer) (at : ℕ) (out : List ℕ) (r : Told) → r ≡ (told t mark x at out).0 → at + longest ≤ length out
    → r.at ≤ length out
unfolding told line_of
told_in t mark x at out r e h =
    let f : r.at ≡ (written (line_of t mark x) at out).0 = ap (λ (y : Told). y.at) e in
    rw f (written_in (line_of t mark x) at out (line_few (one_more t.offered) mark x) h)

pub end_in : (t : Tally) (h : Holder) (at : ℕ) (out : List ℕ) (p : ℕ) → p ≡ (written (last_line t h) at out).0 → at + longest ≤ length out → p ≤ length out
unfolding last_line
end_in t h at out p e k = rw e (written_in (last_line t h) at out (end_few t.accepted t.offered (is_held h) h.state.sn) k)

-- ---- and stands behind what stood there
written_behind : (xs : List ℕ) (at : ℕ) (out : List ℕ) → at + longest ≤ length out → take (written xs at out).0 (written xs at out).1 ≡ take at out ++ xs
unfolding written over
written_behind xs at out k =
    let l : at ≤ length out = omega arith in
    let n : length (take at out ++ xs) ≡ at + length xs = simp length-append (ap (λ (i : ℕ). i + length xs) (length-take-le at out l)) in
    rw (le-leb (at + longest) (length out) k, ← append_assoc) (take_at (take at out ++ xs) _ (at + length xs) n)

pub told_behind : (t : Tally) (mark : ℕ) (x : Answer) (at : ℕ) (out : List ℕ) → at + longest ≤ length out
    → take (told t mark x at out).0.at (told t mark x at out).1 ≡ take at out ++ line_of t mark x
unfolding told
told_behind t mark x at out k = written_behind (line_of t mark x) at out k

pub told_tally : (t : Tally) (mark : ℕ) (x : Answer) (at : ℕ) (out : List ℕ) → (told t mark x at out).0.tally ≡ counted t x
unfolding told
told_tally t mark x at out = refl

pub end_behind : (t : Tally) (h : Holder) (at : ℕ) (out out' : List ℕ) (p : ℕ) → p ≡ (written (last_line t h) at out).0 → out' ≡ (written (last_line t h) at out).1
    → at + longest ≤ length out → take p out' ≡ take at out ++ last_line t h
end_behind t h at out out' p e f k = rw (e, f) (written_behind (last_line t h) at out k)
