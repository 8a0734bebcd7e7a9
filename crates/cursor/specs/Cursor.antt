-- What the readers of numbers and bytes give, as a reading of the format.
use Rattle.std.specs.Prelude.{ℕ, ◌+◌, List, Option, Some, None, Result, Ok, Err, leb, length, take, drop, replicate}
use Rattle.lists.specs.Lists.{pick}
use Rattle.answer.specs.declared.Refusal.{Refusal}
use Rattle.answer.specs.Refusal.{answer_of}
use Rattle.format.specs.Parse.{Parse, got, bad}

-- a field with the place behind it, or none: then 3
abbrev pub had : {A : Type 0} → Option (A × ℕ) → Parse A
had (Some p) = got p.0 p.1
had None = bad 3

-- fields in a row, or their refusal
abbrev pub scanned : {A : Type 0} → Result (A × ℕ) Refusal → Parse A
scanned (Ok p) = got p.0 p.1
scanned (Err r) = bad (answer_of r).number

-- n bytes at a place, zeros where they run out
unfoldable pub raw_of : ℕ → List ℕ → ℕ → List ℕ
raw_of n s at = pick (leb (at + n) (length s)) (take n (drop at s)) (replicate n 0)
