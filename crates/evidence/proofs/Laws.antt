-- The three checks on sets of places are the three checks on the lists of signatures that the sets were gathered from. Assumes nothing.
use mathlib.Core.Path.{◌≡◌, refl, ◌∙◌, ap, ap₂, fun_ext}
use mathlib.Core.Bool.{Bool, true, false}
use mathlib.Core.List.{List, ◌∷◌, []}
use Prim.Native.Nat.{ℕ, ◌<◌}
use lib.Dec.{eqb, ltb}
use borrow.Author.Tests.{eqb-true, lt-ltb}
use Rattle.lists.specs.Lists.{both, either, any}
use Rattle.places.specs.Places.{places_in}
use Rattle.places.proofs.Laws.{places-set, cut-set, chosen-same, below}
use Rattle.threshold.specs.declared.Threshold.{Threshold}
use Rattle.verification.specs.declared.Siger.{Siger}
use Rattle.verification.specs.Verification.{signs_at, firsts, verified_at, exposed_at}
use Rattle.authority.specs.Authority.{quorum, receipts, signed_by, exposed_by, receipted_by}
use Rattle.evidence.specs.Evidence.{evidence_of, signed_on, exposed_on, receipted_on}

none : (a : Bool) → both a false ≡ false
none true = refl
none false = refl

spread : (a x y : Bool) → both a (either x y) ≡ either (both a x) (both a y)
spread true x y = refl
spread false x y = refl

-- a place below n, spoken for below 16, is spoken for below n
within : (n k index : ℕ) (v : Bool) (t : Bool) → eqb index k ≡ t → k < 16
    → both (ltb k n) (both v (both (ltb index 16) t)) ≡ both v (both (ltb index n) t)
within n k index true true e h = let p : index ≡ k = eqb-true index k e in rw (p, lt-ltb k 16 h)
within n k index true false e h = rw (none (ltb index 16), none (ltb index n), none (ltb k n))
within n k index false t e h = none (ltb k n)

any-within : (n k : ℕ) → k < 16 → (xs : List Siger) → both (ltb k n) (any (signs_at 16 k) xs) ≡ any (signs_at n k) xs
unfolding any
any-within n k h [] = none (ltb k n)
any-within n k h (s ∷ ss) =
    spread (ltb k n) (signs_at 16 k s) (any (signs_at 16 k) ss)
    ∙ ap₂ either (within n k s.index.0 s.verified (eqb s.index.0 k) refl h) (any-within n k h ss)

verified_within : (n k : ℕ) (sigs : List Siger) → k < 16 → below n (verified_at 16 sigs) k ≡ verified_at n sigs k
unfolding verified_at
verified_within n k sigs h = any-within n k h (firsts [] sigs)

module _ (keys next : ℕ) (sigs wigs : List Siger) where
  pub signed_is : (t : Threshold) → signed_on t (evidence_of keys next sigs wigs) ≡ signed_by t keys sigs
  signed_is t = ap (quorum 27 t) (places-set (verified_at keys sigs))

  pub exposed_is : (t : Threshold) → exposed_on t (evidence_of keys next sigs wigs) ≡ exposed_by t keys next sigs
  exposed_is t = ap (quorum 28 t) (places-set (exposed_at keys next sigs))

  receipted_at : (toad n : ℕ) → receipted_on toad (evidence_of keys next sigs wigs) n ≡ receipted_by toad n wigs
  receipted_at toad n =
      ap (receipts toad) (
      ap places_in (cut-set n (verified_at 16 wigs))
      ∙ places-set (below n (verified_at 16 wigs))
      ∙ chosen-same 16 (below n (verified_at 16 wigs)) (verified_at n wigs) (λ k h. verified_within n k wigs h))

  -- at every number of witnesses
  pub receipted_is : (toad : ℕ) → receipted_on toad (evidence_of keys next sigs wigs) ≡ (λ n. receipted_by toad n wigs)
  receipted_is toad = fun_ext (λ n. receipted_at toad n)
