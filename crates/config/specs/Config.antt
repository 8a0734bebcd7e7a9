-- "Config traits are 1 EstOnly, 2 DoNotDelegate, 3 to 15 for others"; at most 8, in any order, repeats allowed.
use Rattle.std.specs.Prelude.{ℕ, List, Bool, eqb, leb, take, drop, length}
use Rattle.lists.specs.Lists.{pick, both, any, all, padded}
use Rattle.config.specs.declared.Config.{Config}

abbrev pub traits_of : Config → List ℕ
traits_of c = take c.count c.traits

abbrev pub packed_traits : List ℕ → Config
packed_traits xs = record { count = length xs; traits = padded 8 0 xs }

abbrev pub is_trait : ℕ → Bool
is_trait t = both (leb 1 t) (leb t 15)

unfoldable pub shape_of : Config → ℕ
shape_of c = pick (leb c.count 8) (pick (all is_trait (traits_of c)) (pick (all (eqb 0) (drop c.count c.traits)) 0 3) 3) 4

abbrev pub establishment_only : Config → Bool
establishment_only c = any (eqb 1) (traits_of c)
