-- Sequence numbers are 0 to 2^128-1, as a high and a low 64-bit word.
use Rattle.std.specs.Prelude.{ℕ, ◌+◌, ◌*◌, ◌/◌, ◌%◌, ◌^◌, Bool, eqb, ltb, Option, Some, None}
use Rattle.lists.specs.Lists.{pick, both}
use Rattle.number.specs.declared.Number.{Number}

-- the number that two words stand for, and the words of a number
abbrev pub value : Number → ℕ
value n = n.high * 2 ^ 64 + n.low

abbrev pub words : ℕ → Number
words v = record { high = v / 2 ^ 64; low = v % 2 ^ 64 }

-- a number below 2^64
abbrev pub small : ℕ → Number
small n = record { high = 0; low = n }

-- equal in both words
unfoldable pub same_number : Number → Number → Bool
same_number a b = both (eqb a.high b.high) (eqb a.low b.low)

-- "2^128-1 has no next number"
unfoldable pub next_of : Number → Option Number
next_of n = pick (ltb (value n + 1) (2 ^ 128)) (Some (words (value n + 1))) None
