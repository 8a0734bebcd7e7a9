-- Document 01's example, "1 DR 8 0 0", "2 ?? 1 0 0", "end 0 2 -", and the least and the largest detail, computed. Assumes nothing.
use mathlib.Core.Path.{◌≡◌, refl}
use mathlib.Core.List.{◌∷◌, []}
use mathlib.Core.Bool.{false}
use lib.ListN.{replicate}
use Rattle.number.specs.declared.Number.{Number}
use Rattle.number.specs.Number.{small}
use Rattle.answer.specs.Answer.{refused}
use Rattle.lines.specs.Lines.{numeral, decimal, detail, decimal_then, detail_then, hides_mark, mark_then, reached_then, line, end_line}

pub first : line 1 0x4452 (refused 8 0 0) ≡ 0x31 ∷ 0x20 ∷ 0x44 ∷ 0x52 ∷ 0x20 ∷ 0x38 ∷ 0x20 ∷ 0x30 ∷ 0x20 ∷ 0x30 ∷ 0x0A ∷ []
unfolding line decimal_then detail_then mark_then hides_mark decimal detail numeral
first = refl

-- whatever the two bytes were
pub second : line 2 0x4900 (refused 1 0 0) ≡ 0x32 ∷ 0x20 ∷ 0x3F ∷ 0x3F ∷ 0x20 ∷ 0x31 ∷ 0x20 ∷ 0x30 ∷ 0x20 ∷ 0x30 ∷ 0x0A ∷ []
unfolding line decimal_then detail_then mark_then hides_mark decimal detail numeral
second = refl

pub ended : (sn : Number) → end_line 0 2 false sn ≡ 0x65 ∷ 0x6E ∷ 0x64 ∷ 0x20 ∷ 0x30 ∷ 0x20 ∷ 0x32 ∷ 0x20 ∷ 0x2D ∷ 0x0A ∷ []
unfolding end_line decimal_then reached_then decimal numeral
ended sn = refl

pub least : detail (small 0) ≡ 0x30 ∷ []
unfolding detail numeral
least = refl

-- 2^128-1 is 32 times f
pub largest : detail (record { high = 0xFFFFFFFFFFFFFFFF; low = 0xFFFFFFFFFFFFFFFF }) ≡ replicate 32 0x66
unfolding detail numeral
largest = refl
