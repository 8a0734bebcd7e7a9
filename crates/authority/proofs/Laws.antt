-- Sets of places against thresholds and toads: from the bits that the code has to the lists of the definitions. Assumes nothing.
use mathlib.Core.Path.{◌≡◌, sym, ◌∙◌}
use mathlib.Core.List.{List}
use Prim.Native.Nat.{ℕ}
use native.Mathlib.Omega.{arith}
use lib.ListN.{length}
use borrow.Author.Tests.{lt-ltb, eq-eqb}
use Rattle.answer.specs.Answer.{refused, accepted}
use Rattle.items.specs.Items.{listed}
use Rattle.places.specs.Places.{bit_at, places_in, among}
use Rattle.places.proofs.Laws.{among-chosen, places-set}
use Rattle.threshold.specs.declared.Threshold.{Threshold}
use Rattle.std.specs.Prelude.{Ok, Err}
use Rattle.threshold.specs.declared.Short.{Short}
use Rattle.threshold.specs.Threshold.{judged}
use Rattle.threshold.proofs.Laws.{judged-same}
use Rattle.verification.specs.declared.Sigers.{Sigers}
use Rattle.verification.specs.declared.Counted.{Counted}
use Rattle.verification.specs.Verification.{signatures, verified_at, exposed_at, verified_places, exposed_places, counted_of}
use Rattle.authority.specs.declared.Authority.{Authority}
use Rattle.authority.specs.declared.Commitment.{Commitment}
use Rattle.authority.specs.declared.Witnessing.{Witnessing}
use Rattle.authority.specs.Authority.{quorum, receipts, exposed_by, verifies, witnessed}

-- ---- a judgement over bits is one over the list of their places
module _ (which : ℕ) (t : Threshold) (set n : ℕ) (h : length t.weights ≡ 16) (e : n ≡ length (places_in set)) where
  same-judged : judged t n (bit_at set) ≡ judged t (length (places_in set)) (among (places_in set))
  same-judged =
      rw e (judged-same (bit_at set) (among (places_in set)) (λ k l. sym (among-chosen 16 (bit_at set) k ∙ rw (lt-ltb k 16 l))) t (length (places_in set)) (omega arith))

  pub quorum_met : Ok tt ≡ judged t n (bit_at set) → accepted ≡ quorum which t (places_in set)
  unfolding quorum
  quorum_met m = rw (← m ∙ same-judged)

  pub quorum_short : (short : Short) → Err short ≡ judged t n (bit_at set) → refused which n short.clause ≡ quorum which t (places_in set)
  unfolding quorum
  quorum_short short m = rw (← m ∙ same-judged, e)

-- ---- receipts
pub receipts_none : (toad : ℕ) (ps : List ℕ) → toad ≡ 0 → accepted ≡ receipts toad ps
unfolding receipts
receipts_none toad ps z = rw (eq-eqb toad 0 z)

-- ---- the three entries: counted once, then the sets are judged
module _ (keys next : ℕ) (l : Sigers) (c : Counted) (e : c ≡ counted_of keys next (signatures l)) where
  verified_is : places_in c.verified ≡ verified_places keys (signatures l)
  verified_is = rw e (places-set (verified_at keys (signatures l)))

  exposed_is : places_in c.exposed ≡ exposed_places keys next (signatures l)
  exposed_is = rw e (places-set (exposed_at keys next (signatures l)))

  pub verifies_is : (a : Authority) → keys ≡ length (listed a.keys) → quorum 27 a.threshold (places_in c.verified) ≡ verifies a l
  verifies_is a k = rw (verified_is, k)

  pub witnessed_is : (w : Witnessing) → keys ≡ length (listed w.witnesses) → receipts w.toad (places_in c.verified) ≡ witnessed w l
  witnessed_is w k = rw (verified_is, k)

  pub exposes_is : (o : Commitment) (n : ℕ) → keys ≡ n → next ≡ length (listed o.next) → quorum 28 o.threshold (places_in c.exposed) ≡ exposed_by o.threshold n (length (listed o.next)) (signatures l)
  exposes_is o n k m = rw (exposed_is, k, m)
