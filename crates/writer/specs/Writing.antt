-- What it is to write bytes over a buffer.
use Rattle.std.specs.Prelude.{◌≡◌, ℕ, zero, suc, ◌+◌, ◌/◌, ◌%◌, ◌≤◌, List, [], ◌∷◌, ◌++◌, leb, length, take, drop}
use Rattle.lists.specs.Lists.{pick}

-- "Numbers are big-endian": a number in w bytes
unfoldable pub be : ℕ → ℕ → List ℕ
be zero v = []
be (suc w) v = be w (v / 256) ++ (v % 256 ∷ [])

-- b with xs over its bytes from `at` on
unfoldable pub over : ℕ → List ℕ → List ℕ → List ℕ
over at xs b = take at b ++ (xs ++ drop (at + length xs) b)

-- there is room for xs
abbrev pub Room : List ℕ → ℕ → List ℕ → Type 0
Room xs at b = at + length xs ≤ length b

-- xs was written from `at` on, and nothing else: `next` is the place behind it
pub record Wrote (xs : List ℕ) (at : ℕ) (before : List ℕ) (next : ℕ) (after : List ℕ) : Type 0 where
  pub behind : next ≡ at + length xs
  pub bytes : after ≡ over at xs before

-- where xs has room from `at` on it stands there and nothing else is touched; else nothing is. The place behind it, and the bytes.
unfoldable pub put : List ℕ → ℕ → List ℕ → ℕ × List ℕ
put xs at b = pick (leb (at + length xs) (length b)) (at + length xs, over at xs b) (at, b)
