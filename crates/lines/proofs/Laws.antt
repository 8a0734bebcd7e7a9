-- Digits and lines, for the loops that write them. Assumes nothing.
--     numeral_..   how long a numeral is, and what a loop that counts its digits knows
--     detail_..    a number of two words, word by word
--     .._few       no line is longer than `longest`
--     digits_..    a loop that writes digits from the last one
--     end_..       the last line's first word, and what stands behind it
use mathlib.Core.Path.{◌≡◌, refl, sym, ap}
use mathlib.Core.List.{List, ◌∷◌, ◌++◌, append_assoc, append-nil, []}
use mathlib.Core.Bool.{Bool, true, false}
use Prim.Native.Nat.{ℕ, zero, suc, ◌+◌, ◌-◌, ◌*◌, ◌/◌, ◌%◌, ◌^◌, ◌≤◌, ◌<◌}
use native.Mathlib.Nat.{add-zero, add-suc, mul_assoc, mul-one, one-mul, one-le-mul, one-le-pow, zero-mul, zero-add, pow-zero, pow-suc, mod-eq_of_lt, div-lt_iff_lt-mul, mul-add-div_right, mul-add-mod_self_right, mul-le-mul_right}
use native.Mathlib.Omega.{arith}
use lib.Dec.{ltb}
use lib.ListN.{length, set, length-append}
use borrow.Author.Tests.{lt-ltb, le-ltb, ltb-true, ltb-false}
use Rattle.lists.specs.Lists.{pick}
use Rattle.number.specs.declared.Number.{Number}
use Rattle.number.specs.Number.{value}
use Rattle.answer.specs.declared.Answer.{Answer}
use Rattle.writer.specs.Writing.{over}
use Rattle.writer.proofs.Laws.{Digits, digits_length, digits_less, over_none, over_append}
use Rattle.lines.specs.Lines.{glyph, digits, numeral, decimal, detail, decimal_then, detail_then, hides_mark, mark_then, reached_then, space, feed, line, end_line, longest}

-- ---- Digits
-- as the writer's laws take them
pub digits_made : (b : ℕ) → Digits (digits b) b glyph
unfolding digits
digits_made b = record { none = λ n. refl; next = λ w n. refl }

pub length_digits : (b w n : ℕ) → length (digits b w n) ≡ w
length_digits b = digits_length (digits_made b)

one_digit : (b w n : ℕ) → n < b → numeral b (suc w) n ≡ glyph n ∷ []
unfolding numeral
one_digit b w n h = rw (lt-ltb n b h)

more_digits : (b w n : ℕ) → b ≤ n → numeral b (suc w) n ≡ numeral b w (n / b) ++ (glyph (n % b) ∷ [])
unfolding numeral
more_digits b w n h = rw (le-ltb n b h)

pub numeral_few : (b w n : ℕ) → length (numeral b w n) ≤ w
unfolding numeral
numeral_few b zero n = omega arith
numeral_few b (suc w) n = go (ltb n b) (numeral_few b w (n / b))
  where
    go : (t : Bool) → length (numeral b w (n / b)) ≤ w → length (pick t (glyph n ∷ []) (numeral b w (n / b) ++ (glyph (n % b) ∷ []))) ≤ suc w
    go true h = omega arith
    go false h = simp length-append (omega arith)

-- a number is below the base, or it is not
by_size : (P : Type 0) (n b : ℕ) → (n < b → P) → (b ≤ n → P) → P
by_size P n b short long = go (ltb n b) refl
  where
    go : (t : Bool) → ltb n b ≡ t → P
    go true e = short (ltb-true n b e)
    go false e = long (ltb-false n b e)

-- a numeral is its last digits
pub numeral_digits : (b w n : ℕ) → numeral b w n ≡ digits b (length (numeral b w n)) n
unfolding digits numeral
numeral_digits b zero n = refl
numeral_digits b (suc w) n = by_size _ n b short (long (numeral_digits b w (n / b)))
  where
    short : n < b → numeral b (suc w) n ≡ digits b (length (numeral b (suc w) n)) n
    short h = rw (one_digit b w n h, mod-eq_of_lt h)

    long : numeral b w (n / b) ≡ digits b (length (numeral b w (n / b))) (n / b) → b ≤ n → numeral b (suc w) n ≡ digits b (length (numeral b (suc w) n)) n
    long ih h =
        let e : length (numeral b w (n / b) ++ (glyph (n % b) ∷ [])) ≡ suc (length (numeral b w (n / b))) = simp length-append (omega arith) in
        rw (more_digits b w n h, e) (ap (λ (xs : List ℕ). xs ++ (glyph (n % b) ∷ [])) ih)

-- ---- As a loop counts the digits of n: k are counted, `rest` is what stands before them.
pub numeral_last : (b w k n rest : ℕ) → k < w → rest < b → length (numeral b w n) ≡ k + length (numeral b (w - k) rest) → k + 1 ≡ length (numeral b w n)
numeral_last b w k n rest h l e =
    let f : w - k ≡ suc (w - k - 1) = omega arith in
    let g : length (numeral b (w - k) rest) ≡ 1 = rw (f, one_digit b (w - k - 1) rest l) in
    omega (arith, e, g)

pub numeral_next : (b w k n rest : ℕ) → k < w → b ≤ rest → length (numeral b w n) ≡ k + length (numeral b (w - k) rest)
    → length (numeral b w n) ≡ k + 1 + length (numeral b (w - (k + 1)) (rest / b))
numeral_next b w k n rest h l e =
    let f : w - k ≡ suc (w - (k + 1)) = omega arith in
    let g : length (numeral b (w - k) rest) ≡ length (numeral b (w - (k + 1)) (rest / b)) + 1 = rw (f, more_digits b (w - (k + 1)) rest l, length-append) in
    omega (arith, e, g)

pub numeral_end : (b w k n rest : ℕ) → w ≤ k → length (numeral b w n) ≡ k + length (numeral b (w - k) rest) → k ≡ length (numeral b w n)
unfolding numeral
numeral_end b w k n rest h e =
    let f : w - k ≡ 0 = omega arith in
    let g : length (numeral b (w - k) rest) ≡ 0 = rw f in
    omega (arith, e, g)

-- ---- A number of two words
-- more places change nothing where the number has its digits
spare : (b j w n : ℕ) → 1 < b → n < b ^ suc w → numeral b (j + suc w) n ≡ numeral b (suc w) n
unfolding numeral
spare b j zero n p h =
    let l : n < b = rw (pow-suc, pow-zero, one-mul) at h in
    rw (add-suc, one_digit b (j + 0) n l, one_digit b 0 n l)
spare b j (suc w) n p h = by_size _ n b short (long (spare b j w (n / b) p))
  where
    short : n < b → numeral b (j + suc (suc w)) n ≡ numeral b (suc (suc w)) n
    short l = rw (add-suc, one_digit b (j + suc w) n l, one_digit b (suc w) n l)

    long : (n / b < b ^ suc w → numeral b (j + suc w) (n / b) ≡ numeral b (suc w) (n / b)) → b ≤ n → numeral b (j + suc (suc w)) n ≡ numeral b (suc (suc w)) n
    long ih l =
        let z : 0 < b = omega arith in
        let q : n / b < b ^ suc w = (div-lt_iff_lt-mul z).1 (rw pow-suc at h) in
        rw (add-suc, more_digits b (j + suc w) n l, more_digits b (suc w) n l, ih q)

-- a number above b ^ j: what stands before its last j digits, then those
split : (b w j high low : ℕ) → 1 < b → 0 < high → low < b ^ j → numeral b (w + j) (high * b ^ j + low) ≡ numeral b w high ++ digits b j low
unfolding digits
split b w zero high low p z l =
    let m : low < 1 = rw pow-zero at l in
    let k : low ≡ 0 = omega arith in
    rw (k, pow-zero, mul-one, add-zero w, add-zero high, append-nil)
split b w (suc j) high low p z l =
    let o : 0 < b = omega arith in
    let e : high * b ^ suc j + low ≡ high * b ^ j * b + low = rw (pow-suc, ← mul_assoc) in
    let one : 1 ≤ high * b ^ j = one-le-mul z (one-le-pow j b o) in
    let big : b ≤ high * b ^ j * b + low = omega (arith, mul-le-mul_right b one) in
    let q : low / b < b ^ j = (div-lt_iff_lt-mul o).1 (rw pow-suc at l) in
    rw (e, add-suc, more_digits b (w + j) (high * b ^ j * b + low) big, mul-add-div_right o (high * b ^ j) low, mul-add-mod_self_right (high * b ^ j) b low, split b w j high (low / b) p z q, append_assoc)

pub detail_short : (x : Number) → x.high ≡ 0 → x.low < 2 ^ 64 → detail x ≡ numeral 16 16 x.low
unfolding detail
detail_short x z l = rw (z, zero-mul, zero-add) (spare 16 16 15 x.low (omega arith) l)

pub detail_long : (x : Number) → 0 < x.high → x.low < 2 ^ 64 → detail x ≡ numeral 16 16 x.high ++ digits 16 16 x.low
unfolding detail
detail_long x z l = split 16 16 16 x.high x.low (omega arith) z l

-- ---- How long a line is
then_few : (xs : List ℕ) (most behind : ℕ) → length xs ≤ most → length (xs ++ (behind ∷ [])) ≤ most + 1
then_few xs most behind h = simp length-append (omega arith)

decimal_few : (behind n : ℕ) → length (decimal_then behind n) ≤ 21
unfolding decimal_then decimal
decimal_few behind n = then_few (numeral 10 20 n) 20 behind (numeral_few 10 20 n)

detail_few : (behind : ℕ) (x : Number) → length (detail_then behind x) ≤ 33
unfolding detail_then detail
detail_few behind x = then_few (detail x) 32 behind (numeral_few 16 32 (value x))

mark_few : (behind number mark : ℕ) → length (mark_then behind number mark) ≤ 3
unfolding mark_then
mark_few behind number mark = go (hides_mark number)
  where
    go : (t : Bool) → length (pick t (0x3F ∷ 0x3F ∷ behind ∷ []) (mark / 256 ∷ mark % 256 ∷ behind ∷ [])) ≤ 3
    go true = omega arith
    go false = omega arith

reached_few : (behind : ℕ) (held : Bool) (sn : Number) → length (reached_then behind held sn) ≤ 33
unfolding reached_then
reached_few behind held sn = go held
  where
    go : (t : Bool) → length (pick t (detail_then behind sn) (0x2D ∷ behind ∷ [])) ≤ 33
    go true = detail_few behind sn
    go false = omega arith

pub line_few : (ordinal mark : ℕ) (x : Answer) → length (line ordinal mark x) ≤ longest
unfolding line
line_few ordinal mark x =
    let o = decimal_few space ordinal in
    let m = mark_few space x.number mark in
    let n = decimal_few space x.number in
    let a = detail_few space x.a in
    let b = detail_few feed x.b in
    simp length-append (omega arith)

pub end_few : (accepted offered : ℕ) (held : Bool) (sn : Number) → length (end_line accepted offered held sn) ≤ longest
unfolding end_line
end_few accepted offered held sn =
    let a = decimal_few space accepted in
    let o = decimal_few space offered in
    let r = reached_few feed held sn in
    simp length-append (omega arith)

-- ---- As a loop writes digits from the last one
pub digits_last : (at base i x : ℕ) (b : List ℕ) → 0 < i → at + i ≤ length b → over at (digits base (i - 1) (x / base)) (set b (at + (i - 1)) (glyph (x % base))) ≡ over at (digits base i x) b
digits_last at base i x b h k = sym (digits_less (digits_made base) (over at (digits base i x) b) at b i x h k refl)

pub digits_none : (at base i x : ℕ) (b : List ℕ) → i ≤ 0 → over at (digits base i x) b ≡ b
digits_none at base i x b h =
    let z : i ≡ 0 = omega arith in
    rw (z, (digits_made base).none x) (over_none at b)

-- ---- The last line's first word, and what stands behind it
pub end_length : (accepted offered : ℕ) (held : Bool) (sn : Number) → length (end_line accepted offered held sn)
    ≡ 4 + (length (decimal_then space accepted) + (length (decimal_then space offered) + length (reached_then feed held sn)))
unfolding end_line
end_length accepted offered held sn = simp length-append (omega arith)

pub end_over : (at accepted offered : ℕ) (held : Bool) (sn : Number) (b : List ℕ) → at + length (end_line accepted offered held sn) ≤ length b
    → over at (end_line accepted offered held sn) b
    ≡ over (at + 4) (decimal_then space accepted ++ (decimal_then space offered ++ reached_then feed held sn)) (over at (0x65 ∷ 0x6E ∷ 0x64 ∷ space ∷ []) b)
unfolding end_line
end_over at accepted offered held sn b h = over_append at (0x65 ∷ 0x6E ∷ 0x64 ∷ space ∷ []) _ b (omega arith)
