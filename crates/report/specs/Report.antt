-- "Reads records from standard input. Each line has ordinal, mark (?? with answers 1 and 2), answer number, a, b .. Last: `end`,
-- accepted (lines with answer 0, a KS too), offered (all lines), and sn written as a detail, or `-` for an empty holder."
use Rattle.std.specs.Prelude.{ℕ, zero, suc, ◌+◌, List, [], ◌∷◌, ◌++◌, Bool, ltb, length, drop}
use Rattle.lists.specs.Lists.{pick}
use Rattle.number.specs.declared.Number.{Number}
use Rattle.answer.specs.declared.Answer.{Answer}
use Rattle.answer.specs.Answer.{passes}
use Rattle.state.specs.declared.Holder.{Holder}
use Rattle.state.specs.State.{is_held}
use Rattle.empty.specs.Empty.{nothing}
use Rattle.receive.specs.Received.{received}
use Rattle.lines.specs.Lines.{line, end_line, written}
use Rattle.report.specs.declared.Tally.{Tally}
use Rattle.report.specs.declared.Told.{Told}

-- a count of 64 bits stays at its last number, which no run reaches
unfoldable pub one_more : ℕ → ℕ
one_more n = pick (ltb n 0xFFFFFFFFFFFFFFFF) (n + 1) n

-- "accepted (lines with answer 0, a KS too), offered (all lines)"
unfoldable pub counted : Tally → Answer → Tally
counted t x =
    record { offered = one_more t.offered; accepted = pick (passes x) (one_more t.accepted) t.accepted }

-- the line of an answer: its ordinal is the number of lines with it
unfoldable pub line_of : Tally → ℕ → Answer → List ℕ
line_of t mark x = line (one_more t.offered) mark x

-- a line over the bytes of `out` from `at` on: the tally after it with the place behind it, and the bytes
unfoldable pub told : Tally → ℕ → Answer → ℕ → List ℕ → Told × List ℕ
told t mark x at out =
    (record { tally = counted t x; at = (written (line_of t mark x) at out).0 }, (written (line_of t mark x) at out).1)

abbrev pub end_with : Tally → Bool → Number → List ℕ
end_with t held sn = end_line t.accepted t.offered held sn

unfoldable pub last_line : Tally → Holder → List ℕ
last_line t h = end_with t (is_held h) h.state.sn

-- bytes that are no record: "is 1 and ends the input"
abbrev pub cut_answer : Holder → Answer
cut_answer h = (received h []).offered.answer

abbrev pub untold : Tally
untold = record { offered = 0; accepted = 0 }

-- ---- What keyreport prints of a byte string: a line for each record, refused or not, until nothing is left, then the last line.
-- n is how many lines there are at most.
unfoldable pub reported : ℕ → Tally → Holder → List ℕ → List ℕ
reported zero t h s = []
reported (suc n) t h [] = last_line t h
reported (suc n) t h (b ∷ s) =
    line_of t (received h (b ∷ s)).mark (received h (b ∷ s)).offered.answer
    ++ reported
    n
    (counted t (received h (b ∷ s)).offered.answer)
    (received h (b ∷ s)).offered.holder
    (drop (received h (b ∷ s)).next (b ∷ s))

abbrev pub report : List ℕ → List ℕ
report s = reported (suc (length s)) untold nothing s
