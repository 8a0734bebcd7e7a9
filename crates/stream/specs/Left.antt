-- Which bytes a record has, where the reader's type says what it has left: a file or a pipe says nothing, and of those no contract
-- can name the bytes; a reader over memory says all. What is left of the input are the unused bytes of the window, and then what
-- the reader has left.
use Rattle.std.specs.Prelude.{ℕ, ◌-◌, ◌≤◌, ◌<◌, ◌≡◌, List, [], length, take, drop, Bool, true, false, Option, Some, None, Result, Ok, Err}
use Rattle.std.specs.Io.KnownBytes.{prepend_known, Keeps, Consumes, IsAtEnd, Appends}
use Rattle.stream.specs.declared.Span.{Span}
use Rattle.stream.specs.declared.Place.{Place}
use Rattle.stream.specs.declared.Next.{Next}
use Rattle.stream.specs.declared.Next.TheVariants as N
use Rattle.stream.specs.Window.{size_of}

abbrev pub unused : List ℕ → Span → List ℕ
unused w s = take (s.to - s.from) (drop s.from w)

abbrev pub left_of : List ℕ → Span → Option (List ℕ) → Option (List ℕ)
left_of w s known = prepend_known (unused w s) known

-- ---- Reads
-- nothing was read
abbrev pub Stays : {E : Type 0} → ℕ → Result (Option ℕ) E → Type 0
Stays to (Ok (Some n)) = n ≡ to
Stays to (Ok None) = ⊥
Stays to (Err e) = Unit {0}

-- one read brought the bytes from `to` on; it brings none, where there is room, only at the input's end
abbrev pub Brought : {E : Type 0} → Option (List ℕ) → Option (List ℕ) → ℕ → ℕ → List ℕ → Result (Option ℕ) E → Type 0
Brought old new to end w (Ok (Some n)) = Consumes old new (take (n - to) (drop to w))
Brought old new to end w (Ok None) = Keeps old new × (to < end → IsAtEnd new)
Brought old new to end w (Err e) = Unit {0}

-- reads brought the bytes from `have` on; fewer than were wanted, where there is room, only at the input's end
abbrev pub Filled : {E : Type 0} → Option (List ℕ) → Option (List ℕ) → ℕ → ℕ → List ℕ → Result ℕ E → Type 0
Filled old new have want w (Ok n) =
    Consumes old new (take (n - have) (drop have w)) × (n < want → want ≤ length w → IsAtEnd new)
Filled old new have want w (Err e) = Unit {0}

-- so many bytes were stepped over, or the input ended before
abbrev pub Skipped : {E : Type 0} → Option (List ℕ) → Option (List ℕ) → ℕ → ℕ → ℕ → Result Bool E → Type 0
Skipped old new from most count (Ok true) = (bs : List ℕ) × Consumes old new bs × (length bs ≡ count)
Skipped old new from most count (Ok false) =
    (bs : List ℕ) × Consumes old new bs × (length bs < count) × (from < most → IsAtEnd new)
Skipped old new from most count (Err e) = Unit {0}

-- what was left of the input is left, and more of it, or all, stands in the window
abbrev pub HoldsLeft : {E : Type 0} → Option (List ℕ) → Option (List ℕ) → ℕ → List ℕ → Result Span E → Type 0
HoldsLeft left known want w (Ok s) =
    Keeps left (left_of w s known) × (s.to - s.from < want → want ≤ length w → IsAtEnd known)
HoldsLeft left known want w (Err e) = Unit {0}

-- ---- Records
-- s begins with a record, which stands at a place of the window; behind it s goes on
pub record Begins (s : List ℕ) (w : List ℕ) (known : Option (List ℕ)) (p : Place) : Type 0 where
  pub whole : size_of s ≤ length s
  pub shown : take (p.to - p.from) (drop p.from w) ≡ take (p.to - p.from) s
  pub behind : left_of w (record { from = p.to; to = p.end }) known ≡ Some (drop (size_of s) s)

-- what is found where s is left of the input: its first record; less than a record, and not nothing; nothing
abbrev pub Gives : {E : Type 0} → List ℕ → List ℕ → Option (List ℕ) → Result Next E → Type 0
Gives s w known (Ok (N.Record p)) = Begins s w known p
Gives s w known (Ok N.Cut) = (0 < length s) × (length s < size_of s)
Gives s w known (Ok N.Ended) = s ≡ []
Gives s w known (Err e) = Unit {0}

-- ---- Writes
-- one write took the bytes from `done` on, or failed and took none
abbrev pub Wrote : {E : Type 0} → Option (List ℕ) → Option (List ℕ) → ℕ → List ℕ → Result (Option ℕ) E → Type 0
Wrote old new done out (Ok (Some n)) = Appends old new (take (n - done) (drop done out))
Wrote old new done out (Ok None) = Unit {0}
Wrote old new done out (Err e) = Unit {0}
