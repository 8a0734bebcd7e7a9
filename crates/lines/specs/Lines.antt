-- "Each line has ordinal, mark (?? with answers 1 and 2), answer number, a, b; details are lower-case hex without leading zeros
-- (zero is 0), the rest decimal. Last: `end`, accepted (lines with answer 0, a KS too), offered (all lines), and sn written as a
-- detail, or `-` for an empty holder."
use Rattle.std.specs.Prelude.{ℕ, zero, suc, ◌+◌, ◌/◌, ◌%◌, List, [], ◌∷◌, ◌++◌, Bool, ltb, leb, eqb, length}
use Rattle.lists.specs.Lists.{pick, either}
use Rattle.number.specs.declared.Number.{Number}
use Rattle.number.specs.Number.{value}
use Rattle.answer.specs.declared.Answer.{Answer}
use Rattle.writer.specs.Writing.{over}

-- ---- Numbers
-- a digit: 0 to 9, then a to f
abbrev pub glyph : ℕ → ℕ
glyph d = pick (ltb d 10) (0x30 + d) (0x57 + d)

-- the last w digits of n in base b
unfoldable pub digits : ℕ → ℕ → ℕ → List ℕ
digits b zero n = []
digits b (suc w) n = digits b w (n / b) ++ (glyph (n % b) ∷ [])

-- n in base b "without leading zeros (zero is 0)": below b it is one digit, else the digits of n / b and one more. w is how many
-- there are at most.
unfoldable pub numeral : ℕ → ℕ → ℕ → List ℕ
numeral b zero n = []
numeral b (suc w) n = pick (ltb n b) (glyph n ∷ []) (numeral b w (n / b) ++ (glyph (n % b) ∷ []))

-- a number of 64 bits has 20 digits at most, a detail has 32
unfoldable pub decimal : ℕ → List ℕ
decimal n = numeral 10 20 n

unfoldable pub detail : Number → List ℕ
detail x = numeral 16 32 (value x)

-- ---- Fields: one space between them, a line feed after every line
abbrev pub space : ℕ
space = 0x20

abbrev pub feed : ℕ
feed = 0x0A

unfoldable pub decimal_then : ℕ → ℕ → List ℕ
decimal_then behind n = decimal n ++ (behind ∷ [])

unfoldable pub detail_then : ℕ → Number → List ℕ
detail_then behind x = detail x ++ (behind ∷ [])

-- "mark (?? with answers 1 and 2)": ? is 0x3F
unfoldable pub hides_mark : ℕ → Bool
hides_mark number = either (eqb number 1) (eqb number 2)

unfoldable pub mark_then : ℕ → ℕ → ℕ → List ℕ
mark_then behind number mark =
    pick (hides_mark number) (0x3F ∷ 0x3F ∷ behind ∷ []) (mark / 256 ∷ mark % 256 ∷ behind ∷ [])

-- "sn written as a detail, or `-` for an empty holder": - is 0x2D
unfoldable pub reached_then : ℕ → Bool → Number → List ℕ
reached_then behind held sn = pick held (detail_then behind sn) (0x2D ∷ behind ∷ [])

-- ---- Lines
unfoldable pub line : ℕ → ℕ → Answer → List ℕ
line ordinal mark x =
    decimal_then space ordinal
    ++ (mark_then space x.number mark
    ++ (decimal_then space x.number
    ++ (detail_then space x.a
    ++ detail_then feed x.b)))

-- e, n, d
unfoldable pub end_line : ℕ → ℕ → Bool → Number → List ℕ
end_line accepted offered held sn =
    (0x65 ∷ 0x6E ∷ 0x64 ∷ space ∷ [])
    ++ (decimal_then space accepted ++ (decimal_then space offered ++ reached_then feed held sn))

-- ---- Writing
-- No line is longer than 20 + 1 + 2 + 1 + 20 + 1 + 32 + 1 + 32 + 1 bytes, a number of an answer taken as any other.
abbrev pub longest : ℕ
longest = 111

-- Where the longest line has room from `at` on, the line stands there and nothing else is touched; else nothing is. The place
-- behind it, and the bytes.
unfoldable pub written : List ℕ → ℕ → List ℕ → ℕ × List ℕ
written xs at b = pick (leb (at + longest) (length b)) (at + length xs, over at xs b) (at, b)
