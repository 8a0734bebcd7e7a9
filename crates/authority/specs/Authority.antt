-- 27, 28 and 32 as sizes of sets of places. "27, 28: distinct counted. 32: valid, required." "Toad 0 reads no receipts."
-- Document 02, request 2: "The signature and commitment counts pass it on: b of 27 and 28 is this number from now on."
use Rattle.std.specs.Prelude.{ℕ, List, [], ◌∷◌, eqb, leb, length}
use Rattle.lists.specs.Lists.{pick}
use Rattle.answer.specs.declared.Answer.{Answer}
use Rattle.answer.specs.Answer.{refused, accepted, first_refusal}
use Rattle.items.specs.Items.{listed}
use Rattle.threshold.specs.declared.Threshold.{Threshold}
use Rattle.threshold.specs.Threshold.{judged_by, satisfied, clause_named}
use Rattle.verification.specs.declared.Siger.{Siger}
use Rattle.verification.specs.declared.Sigers.{Sigers}
use Rattle.verification.specs.Verification.{signatures, verified_places, exposed_places}
use Rattle.authority.specs.declared.Authority.{Authority}
use Rattle.authority.specs.declared.Commitment.{Commitment}
use Rattle.authority.specs.declared.Witnessing.{Witnessing}

-- a set of places against a threshold: how many there are, and the first unsatisfied clause, or 0 where there is none to name
abbrev pub too_few : ℕ → Threshold → List ℕ → Answer
too_few which t places = refused which (length places) (clause_named (judged_by t places))

unfoldable pub quorum : ℕ → Threshold → List ℕ → Answer
quorum which t places = pick (satisfied t places) accepted (too_few which t places)

-- at least `toad` of the witnesses
unfoldable pub receipts : ℕ → List ℕ → Answer
receipts toad places = pick (eqb toad 0) accepted (pick (leb toad (length places)) accepted (refused 32 (length places) toad))

-- ---- the three checks over lists: how many keys, commitments, witnesses there are, and the signatures
abbrev pub signed_by : Threshold → ℕ → List Siger → Answer
signed_by t keys sigs = quorum 27 t (verified_places keys sigs)

abbrev pub exposed_by : Threshold → ℕ → ℕ → List Siger → Answer
exposed_by t keys next sigs = quorum 28 t (exposed_places keys next sigs)

abbrev pub receipted_by : ℕ → ℕ → List Siger → Answer
receipted_by toad witnesses wigs = receipts toad (verified_places witnesses wigs)

-- ---- as the Rust's three entries have them
abbrev pub verifies : Authority → Sigers → Answer
verifies a l = signed_by a.threshold (length (listed a.keys)) (signatures l)

unfoldable pub opens : Commitment → Authority → Sigers → Answer
opens c revealed l =
    first_refusal (
    verifies revealed l
    ∷ exposed_by c.threshold (length (listed revealed.keys)) (length (listed c.next)) (signatures l)
    ∷ [])

abbrev pub witnessed : Witnessing → Sigers → Answer
witnessed w l = receipted_by w.toad (length (listed w.witnesses)) (signatures l)
