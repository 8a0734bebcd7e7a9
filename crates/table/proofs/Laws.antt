-- Choices, and checks in order: where each answer's number has a property, the one that comes has it. Assumes nothing.
--     pick_in      a choice of two
--     then_in      a check, and what is behind it where the check passes
--     first_in     the checks in order; fault_in: the shape of fields in order
use mathlib.Core.Path.{◌≡◌, refl}
use mathlib.Core.List.{List, ◌∷◌, []}
use mathlib.Core.Bool.{Bool, true, false}
use Prim.Native.Nat.{ℕ}
use lib.Dec.{eqb}
use Rattle.lists.specs.Lists.{pick}
use Rattle.answer.specs.declared.Answer.{Answer}
use Rattle.answer.specs.Answer.{passes, first_refusal, first_fault}
use Rattle.decoded.proofs.Gives.{Each}

pub pick_in : {A : Type 0} (P : A → Type 0) (t : Bool) (x y : A) → P x → P y → P (pick t x y)
pick_in P true x y p q = p
pick_in P false x y p q = q

pub then_in : (P : Answer → Type 0) (x : Answer) (xs : List Answer) → P x → (passes x ≡ true → P (first_refusal xs)) → P (first_refusal (x ∷ xs))
unfolding first_refusal
then_in P x xs p q = by_test (passes x) q
  where
    by_test : (t : Bool) → (t ≡ true → P (first_refusal xs)) → P (pick t (first_refusal xs) x)
    by_test true f = f refl
    by_test false f = p

pub first_in : (P : Answer → Type 0) (xs : List Answer) → P (first_refusal []) → Each P xs → P (first_refusal xs)
first_in P [] z e = z
first_in P (x ∷ xs) z e = then_in P x xs e.0 (λ p. first_in P xs z e.1)

pub fault_in : (P : ℕ → Type 0) (ns : List ℕ) → P 0 → Each P ns → P (first_fault ns)
unfolding first_fault
fault_in P [] z e = z
fault_in P (n ∷ ns) z e = pick_in P (eqb n 0) (first_fault ns) n (fault_in P ns z e.1) e.0
