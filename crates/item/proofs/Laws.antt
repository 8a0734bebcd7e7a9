-- Equality of items. Assumes nothing.
--     same_item_lem    equal over all 33 bytes is equal; with itself, the other way round; zero_only: only the zero item is zero
use mathlib.Core.Path.{◌≡◌, refl, sym, ◌∙◌}
use mathlib.Core.Bool.{Bool, true, false}
use mathlib.Core.List.{List}
use Prim.Native.Nat.{ℕ}
use lib.Dec.{eqb}
use lib.ListN.{replicate}
use Rattle.std.specs.Cmp.Lexicographic.{pointwise}
use Rattle.lists.proofs.Chains.{same_pointwise}
use borrow.Author.Tests.{eqb-true, eq-eqb, ne_eqb}
use Rattle.lists.specs.Lists.{same_numbers}
use Rattle.lists.proofs.Facts.{both_true, both_in, same-numbers, same_refl}
use Rattle.item.specs.declared.Item.{Item}
use Rattle.item.specs.Item.{same_item, zero_item, is_zero}

made : {n m : ℕ} {a b : List ℕ} → n ≡ m → a ≡ b → ◌≡◌ {A = Item} (record { code = n; raw = a }) (record { code = m; raw = b })
made e f = cc

module _ (a b : Item) where
  pub same_item_lem : same_item a b ≡ true → a ≡ b
  unfolding same_item
  same_item_lem e =
      let p = both_true (eqb a.code b.code) (same_numbers a.raw b.raw) e in
      made (eqb-true a.code b.code p.0) (same-numbers a.raw b.raw p.1)

pub same_item_refl : (a : Item) → same_item a a ≡ true
unfolding same_item
same_item_refl a = both_in (eqb a.code a.code) (same_numbers a.raw a.raw) (eq-eqb a.code a.code refl) (same_refl a.raw)

pub same_item_swap : (a b : Item) → same_item a b ≡ same_item b a
same_item_swap a b = by_test (same_item a b) (same_item b a) refl refl
  where
    by_test : (s t : Bool) → same_item a b ≡ s → same_item b a ≡ t → same_item a b ≡ same_item b a
    by_test true t e f = let g : a ≡ b = same_item_lem a b e in rw g
    by_test false true e f = let g : b ≡ a = same_item_lem b a f in rw g
    by_test false false e f = e ∙ sym f

pub zero_only : (x : Item) → is_zero x ≡ true → x ≡ zero_item
zero_only x e = sym (same_item_lem zero_item x e)

-- the zero item by its parts
pub zero_by : (x : Item) → x.code ≡ 0 → pointwise eqb x.raw (replicate 32 0) ≡ is_zero x
unfolding same_item
zero_by x e =
    let p : same_item x zero_item ≡ same_numbers x.raw (replicate 32 0) = rw (eq-eqb x.code 0 e) in
    same_pointwise x.raw (replicate 32 0) ∙ sym p ∙ same_item_swap x zero_item

pub zero_not : (x : Item) → (x.code ≡ 0 → ⊥) → is_zero x ≡ false
unfolding same_item
zero_not x e = rw (ne_eqb 0 x.code (λ h. e (sym h)))
