-- What a step of the program asks of a record in the window, room for a line, and what is written: the report of the input, where
-- the reader and the writer say which bytes they have.
use Rattle.std.specs.Prelude.{ℕ, ◌+◌, ◌-◌, ◌*◌, ◌≤◌, ◌<◌, ◌≡◌, List, [], ◌++◌, length, take, drop, get_or, Option, IfSome, Result, Ok, Err}
use Rattle.std.specs.Io.KnownBytes.{Appends}
use Rattle.stream.specs.declared.Place.{Place}
use Rattle.stream.specs.declared.Next.{Next}
use Rattle.stream.specs.declared.Next.TheVariants as N
use Rattle.lines.specs.Lines.{longest}
use Rattle.found.specs.Kept.{kept_in}
use Rattle.report.specs.declared.Tally.{Tally}
use Rattle.report.specs.Report.{counted, line_of, last_line, report}
use Rattle.in_place.specs.Calls.{Left, offered_in}

-- "a two-byte ASCII mark", and the bytes of the body that stand in the window
abbrev pub mark_at : List ℕ → Place → ℕ
mark_at w p = get_or w p.from 0 * 256 + get_or w (p.from + 1) 0

abbrev pub body_at : List ℕ → Place → List ℕ
body_at w p = take (p.to - (p.from + 4)) (drop (p.from + 4) w)

-- a line fits behind the place
abbrev pub Fits : {E : Type 0} → ℕ → Result ℕ E → Type 0
Fits most (Ok at) = at + longest ≤ most
Fits most (Err e) = Unit {0}

-- the lines that stood up to a place are written or still stand
abbrev pub Flushed : {E : Type 0} → Option (List ℕ) → Option (List ℕ) → List ℕ → List ℕ → Result ℕ E → Type 0
Flushed before after lines out (Ok n) = (wrote : List ℕ) × Appends before after wrote × (lines ≡ wrote ++ take n out)
Flushed before after lines out (Err e) = Unit {0}

-- the line for bytes that are no record, and the last line
abbrev pub cut_lines : Tally → Left → List ℕ
cut_lines t l = line_of t 0 l.answer ++ last_line (counted t l.answer) (kept_in l.bytes l.used).holder

-- where no read and no write failed: the lines so far, and those that end the report
abbrev pub Finished : Option (List ℕ) → Option (List ℕ) → List ℕ → Tally → List ℕ → ℕ → Next → Type 0
Finished before after lines t buf used N.Cut = Appends before after (lines ++ cut_lines t (offered_in buf used []))
Finished before after lines t buf used N.Ended = Appends before after (lines ++ last_line t (kept_in buf used).holder)
Finished before after lines t buf used (N.Record p) = Unit {0}

-- no state is held yet, the buffer has room for every state, and the window for every good record
abbrev pub Ready : ℕ → List ℕ → List ℕ → Type 0
Ready used state window = (used ≡ 0) × (2285 ≤ length state) × (10090 < length window)

-- where the reader says which bytes it has, the report of all of them is written
abbrev pub Reports : Option (List ℕ) → Option (List ℕ) → Option (List ℕ) → Type 0
Reports known before after = IfSome known (λ s. Appends before after (report s))
