-- What is promised of the window that an input is read through, whatever the input is: where the bytes stand that a read brings,
-- that a record is as long as its length says, and that bytes that are read and not used stay. Which bytes they are is in Left.
use Rattle.std.specs.Prelude.{ℕ, ◌+◌, ◌-◌, ◌*◌, ◌≤◌, ◌≡◌, List, leb, length, take, drop, get_or, cond, Option, Some, None, Result, Ok, Err}
use Rattle.stream.specs.declared.Span.{Span}
use Rattle.stream.specs.declared.Place.{Place}
use Rattle.stream.specs.declared.Next.{Next}
use Rattle.stream.specs.declared.Next.TheVariants as N

-- "a two-byte ASCII mark, a u16 body length, the body": how long the record is that stands first
abbrev pub size_of : List ℕ → ℕ
size_of s = 4 + (get_or s 2 0 * 256 + get_or s 3 0)

-- how much of it is kept in a window of `most` bytes: all, or the mark, the length and the first 10,086 bytes of the body
abbrev pub kept_of : ℕ → List ℕ → ℕ
kept_of most s = cond (leb (size_of s) most) (size_of s) 10090

-- n bytes that stood from `from` on stand from `now` on
abbrev pub Stay : ℕ → List ℕ → ℕ → List ℕ → ℕ → Type 0
Stay n before from after now = (k : ℕ) → k ≤ n → take k (drop now after) ≡ take k (drop from before)

-- there are bytes up to a place that is not before `to` and not behind `end`
abbrev pub Reached : {E : Type 0} → ℕ → ℕ → Result (Option ℕ) E → Type 0
Reached to end (Ok (Some n)) = (to ≤ n) × (n ≤ end)
Reached to end (Ok None) = Unit {0}
Reached to end (Err e) = Unit {0}

-- the bytes of a span, and more behind them
pub record Longer (before : List ℕ) (old : Span) (after : List ℕ) (s : Span) : Type 0 where
  pub ordered : s.from ≤ s.to
  pub within : s.to ≤ length after
  pub longer : old.to - old.from ≤ s.to - s.from
  pub stay : Stay (old.to - old.from) before old.from after s.from

abbrev pub Holds : {E : Type 0} → List ℕ → Span → List ℕ → Result Span E → Type 0
Holds before old after (Ok s) = Longer before old after s
Holds before old after (Err e) = Unit {0}

-- a record at a place of the window: as much of it as is kept, with the unused bytes, in their order, as its first ones and
-- behind it
pub record Stands (before : List ℕ) (old : Span) (after : List ℕ) (p : Place) : Type 0 where
  pub begins : p.from + 4 ≤ p.to
  pub whole : p.to ≡ p.from + kept_of (length after) (drop p.from after)
  pub ordered : p.to ≤ p.end
  pub within : p.end ≤ length after
  pub stay : (k : ℕ) → k ≤ old.to - old.from → k ≤ p.end - p.from → take k (drop p.from after) ≡ take k (drop old.from before)

-- the input has ended only where no byte is left unused
abbrev pub Found : {E : Type 0} → List ℕ → Span → List ℕ → Result Next E → Type 0
Found before old after (Ok (N.Record p)) = Stands before old after p
Found before old after (Ok N.Cut) = Unit {0}
Found before old after (Ok N.Ended) = old.to ≡ old.from
Found before old after (Err e) = Unit {0}
