-- 27 and 28 of every event: the answer is what the counted places get, and its b names the clause. Assumes nothing.
--     b_of_27      of the keys that the event brings, of the state's for an interaction
--     b_of_28      of the next threshold that the state holds
use mathlib.Core.Path.{◌≡◌, refl}
use mathlib.Core.List.{List}
use Prim.Native.Nat.{ℕ, ◌≤◌}
use native.Mathlib.Omega.{arith}
use Rattle.number.specs.declared.Number.{Number}
use Rattle.answer.specs.declared.Answer.{Answer}
use Rattle.answer.specs.Answer.{accepted}
use Rattle.threshold.specs.declared.Threshold.{Threshold}
use Rattle.threshold.specs.Threshold.{satisfied}
use Rattle.verification.specs.Verification.{signatures, verified_places, exposed_places}
use Rattle.authority.specs.Authority.{too_few, quorum}
use Rattle.short_clause.specs.ShortClause.{Refuses}
use Rattle.short_clause.proofs.Laws.{b_tells}
use Rattle.event.specs.declared.Event.{Event}
use Rattle.state.specs.declared.Holder.{Holder}
use Rattle.ingest.specs.Judgement.{answer_to, offered}
use Rattle.table.specs.Counted.{signers, signed27, shown28}
use Rattle.table.proofs.Laws.{pick_in}
use Rattle.table.proofs.Stages.{answers}

-- a set of places gets 0 or its own number, so not another
only : (which other : ℕ) (t : Threshold) (places : List ℕ) → (0 ≡ other → ⊥) → (which ≡ other → ⊥) → (quorum which t places).number ≡ other → ⊥
unfolding quorum
only which other t places z w = pick_in (λ (x : Answer). x.number ≡ other → ⊥) (satisfied t places) accepted (too_few which t places) z w

module _ (h : Holder) (e : Event) where
  -- an answer that is 27 is what the signatures get, and one that is 28 what the commitments get
  abbrev Counts : Answer → Type 0
  Counts x = (x.number ≡ 27 → x ≡ signed27 e.ilk h.state e) × (x.number ≡ 28 → x ≡ shown28 h.state e)

  less : (n : ℕ) (a b : Number) → n ≤ 26 → Counts (record { number = n; a = a; b = b })
  less n a b p = ((λ q. absurd (omega (arith, p, q))), λ q. absurd (omega (arith, p, q)))

  more : (n : ℕ) (a b : Number) → 30 ≤ n → n ≤ 38 → Counts (record { number = n; a = a; b = b })
  more n a b p q = ((λ r. absurd (omega (arith, p, r))), λ r. absurd (omega (arith, p, r)))

  counts : Counts (answer_to h e)
  counts =
      answers Counts less more h e
      ((λ _. refl), λ n. absurd (only 27 28 _ _ (λ z. omega (arith, z)) (λ z. omega (arith, z)) n))
      ((λ n. absurd (only 28 27 _ _ (λ z. omega (arith, z)) (λ z. omega (arith, z)) n)), λ _. refl)

  pub b_of_27 : (offered h e).answer.number ≡ 27
      → let a = signers e.ilk h.state e in Refuses 27 a.threshold (verified_places a.keys.count (signatures e.sigs)) (offered h e).answer
  unfolding offered
  b_of_27 n = b_tells 27 _ _ (answer_to h e) (λ z. omega (arith, z)) (counts.0 n) n

  pub b_of_28 : (offered h e).answer.number ≡ 28
      → let s = h.state in Refuses 28 s.commitment.threshold (exposed_places e.body.authority.keys.count s.commitment.next.count (signatures e.sigs)) (offered h e).answer
  unfolding offered
  b_of_28 n = b_tells 28 _ _ (answer_to h e) (λ z. omega (arith, z)) (counts.1 n) n
