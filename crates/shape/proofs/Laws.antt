-- An event's shape by its ilk, and what a shape without a fault says. Assumes nothing.
use mathlib.Core.Path.{◌≡◌, refl, sym, ◌∙◌, ap}
use mathlib.Core.Bool.{Bool, true, false}
use mathlib.Core.List.{List, ◌∷◌}
use Prim.Native.Nat.{ℕ}
use native.Mathlib.Omega.{arith}
use lib.Dec.{eqb}
use borrow.Author.Tests.{eqb-true, eq-eqb}
use Rattle.lists.specs.Lists.{pick}
use Rattle.lists.proofs.Facts.{clash}
use Rattle.answer.specs.Answer.{first_fault}
use Rattle.item.specs.declared.Item.{Item}
use Rattle.item.specs.declared.Kind.{Kind}
use Rattle.item.specs.declared.Kind.TheVariants.{Prefix}
use Rattle.item.specs.Item.{item_fits, item_shape}
use Rattle.event.specs.declared.Ilk.{Ilk}
use Rattle.event.specs.declared.Ilk.TheVariants.{Inception}
use Rattle.event.specs.declared.Event.{Event}
use Rattle.shape.specs.Event.{first_head, shape_as, event_shape}

pub shape_as_lem : (e : Event) (k : Ilk) → e.ilk ≡ k → shape_as k e ≡ event_shape e
unfolding event_shape
shape_as_lem e k p = ap (λ (i : Ilk). shape_as i e) (sym p)

-- a pick between 0 and another number that gives 0
pub picked : (b : Bool) (n : ℕ) → (n ≡ 0 → ⊥) → pick b 0 n ≡ 0 → b ≡ true
picked true n ne e = refl
picked false n ne e = absurd (ne e)

-- fields in order: no fault is none in each
pub no_fault : (n : ℕ) (ns : List ℕ) → first_fault (n ∷ ns) ≡ 0 → (n ≡ 0) × (first_fault ns ≡ 0)
unfolding first_fault
no_fault n ns e = by_test (eqb n 0) refl
  where
    by_test : (b : Bool) → eqb n 0 ≡ b → (n ≡ 0) × (first_fault ns ≡ 0)
    by_test true p = (eqb-true n 0 p, rw p at e)
    by_test false p = let z : n ≡ 0 = rw p at e in clash (sym (eq-eqb n 0 z) ∙ p)

pub item_fits_lem : (k : Kind) (x : Item) → item_shape k x ≡ 0 → item_fits k x ≡ true
item_fits_lem k x e = picked (item_fits k x) 3 (λ z. absurd (omega (arith, z))) e

pub good_prefix : (e : Event) → shape_as Inception e ≡ 0 → item_fits Prefix e.head.prefix ≡ true
unfolding first_head
good_prefix e z = item_fits_lem Prefix e.head.prefix (no_fault _ _ (no_fault _ _ z).0).0
