-- Weights. "A clause adds signed weights left to right in checked u64; a zero denominator anywhere, signed or not, fails it."
use Rattle.std.specs.Prelude.{ℕ, ◌+◌, ◌*◌, ◌^◌, Bool, true, false, Option, Some, None, eqb, ltb, leb}
use Rattle.lists.specs.Lists.{pick, both}
use Rattle.weight.specs.declared.Weight.{Weight}

-- a number in u64, or over
abbrev pub in_word : ℕ → Option ℕ
in_word n = pick (ltb n (2 ^ 64)) (Some n) None

-- go on with a number in u64, or fail
abbrev pub checked : Option ℕ → (ℕ → Option Weight) → Option Weight
checked (Some n) k = k n
checked None k = None

-- a clause's sum so far is a fraction, or it failed: an overflow of u64, or a zero denominator
unfoldable pub plus : Option Weight → Weight → Option Weight
plus (Some s) w =
    checked (in_word (s.num * w.den))
    (λ l. checked (in_word (w.num * s.den))
    (λ r. checked (in_word (l + r))
    (λ n. checked (in_word (s.den * w.den))
    (λ d. Some (record { num = n; den = d })))))
plus None w = None

unfoldable pub weigh : Bool → Option Weight → Weight → Option Weight
weigh signed s w = pick (eqb w.den 0) None (pick signed (plus s w) s)

-- a clause's sum is 0/1 at first
abbrev pub no_sum : Option Weight
no_sum = Some (record { num = 0; den = 1 })

abbrev pub reaches_one : Option Weight → Bool
reaches_one (Some s) = leb s.den s.num
reaches_one None = false

abbrev pub zero_weight : Weight → Bool
zero_weight w = both (eqb w.num 0) (eqb w.den 0)
