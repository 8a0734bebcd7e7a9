-- Config traits: how many places there are, and a config of the right shape. Assumes nothing.
use mathlib.Core.Path.{◌≡◌, sym}
use mathlib.Core.Bool.{true}
use mathlib.Core.List.{List}
use Prim.Native.Nat.{ℕ, ◌≤◌}
use native.Mathlib.Omega.{arith}
use lib.Dec.{eqb, leb}
use lib.ListN.{length, drop, length-take}
use mir.Val.{Val}
use denote.Laws.{Is}
use borrow.Author.Tests.{leb-true, eqb-true}
use Rattle.lists.specs.Lists.{all}
use Rattle.lists.proofs.Facts.{picks}
use Rattle.lists.proofs.Padding.{is_padded}
use Rattle.config.specs.declared.Config.{Config}
use Rattle.config.specs.Config.{traits_of, packed_traits, is_trait, shape_of}
use Rattle.config.specs.contracts.Config.{the_row}

-- who owns a config knows that it has 8 places: from `good` for a parameter, from `ok` for a call's result
pub places-8 : (c : Config) (vs : List Val) → Is the_row c vs → length c.traits ≡ 8
places-8 c vs p = p.1.1.1.0.1.0.1

made : {n m : ℕ} {a b : List ℕ} → n ≡ m → a ≡ b → ◌≡◌ {A = Config} (record { count = n; traits = a }) (record { count = m; traits = b })
made e f = cc

-- a shape without a fault: what passed
pub record Good (c : Config) : Type 0 where
  pub few : c.count ≤ 8
  pub fit : all is_trait (traits_of c) ≡ true
  pub rest : all (eqb 0) (drop c.count c.traits) ≡ true

pub good : (c : Config) → shape_of c ≡ 0 → Good c
unfolding shape_of
good c e =
    let p = picks (leb c.count 8) (all is_trait (traits_of c)) (all (eqb 0) (drop c.count c.traits)) e in
    record { few = leb-true c.count 8 p.0; fit = p.1.0; rest = p.1.1 }

zero_only : (x : ℕ) → eqb 0 x ≡ true → x ≡ 0
zero_only x e = sym (eqb-true 0 x e)

-- a config of the right shape is its traits, packed
pub packed_traits_lem : (c : Config) → length c.traits ≡ 8 → shape_of c ≡ 0 → c ≡ packed_traits (traits_of c)
packed_traits_lem c h e =
    let g = good c e in
    let few : c.count ≤ 8 = g.few in
    let n : length (traits_of c) ≡ c.count = simp length-take (omega arith) in
    made (sym n) (is_padded 0 (eqb 0) zero_only 8 c.count c.traits h few g.rest)
