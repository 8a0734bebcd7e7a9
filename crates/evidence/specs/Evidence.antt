-- Three sets of places, and the three checks on them. A receipt's place is bounded by the resulting witness list, which comes
-- late: the set is kept below 16 and cut to the list when its length is known.
use Rattle.std.specs.Prelude.{ℕ, List}
use Rattle.answer.specs.declared.Answer.{Answer}
use Rattle.places.specs.Places.{set_of, places_in, cut_to}
use Rattle.threshold.specs.declared.Threshold.{Threshold}
use Rattle.verification.specs.declared.Siger.{Siger}
use Rattle.verification.specs.Verification.{verified_at, exposed_at}
use Rattle.authority.specs.Authority.{quorum, receipts}
use Rattle.evidence.specs.declared.Evidence.{Evidence}

abbrev pub evidence_of : ℕ → ℕ → List Siger → List Siger → Evidence
evidence_of keys next sigs wigs =
    record {
      verified = set_of 16 (verified_at keys sigs);
      exposed = set_of 16 (exposed_at keys next sigs);
      receipted = set_of 16 (verified_at 16 wigs);
    }

abbrev pub signed_on : Threshold → Evidence → Answer
signed_on t v = quorum 27 t (places_in v.verified)

abbrev pub exposed_on : Threshold → Evidence → Answer
exposed_on t v = quorum 28 t (places_in v.exposed)

abbrev pub receipted_on : ℕ → Evidence → ℕ → Answer
receipted_on toad v witnesses = receipts toad (places_in (cut_to witnesses v.receipted))
