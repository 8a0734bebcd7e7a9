-- What the private functions promise: the stages of rules/specs/Rules over what stands at marks, with the prefix, the counts and
-- the evidence handed in. proofs/Laws has that they come to the judgements of ingest/specs/Judgement.
use Rattle.std.specs.Prelude.{ℕ, List, [], ◌∷◌}
use Rattle.answer.specs.declared.Answer.{Answer}
use Rattle.answer.specs.Answer.{first_refusal}
use Rattle.item.specs.declared.Item.{Item}
use Rattle.items.specs.declared.Items.{Items}
use Rattle.items.specs.Items.{listed}
use Rattle.threshold.specs.declared.Threshold.{Threshold}
use Rattle.threshold.specs.Threshold.{well_formed}
use Rattle.toad.specs.Toad.{witness_threshold}
use Rattle.member_set.specs.Members.{Change, witness_faults, change_faults, updated}
use Rattle.inception.specs.Identity.{identity}
use Rattle.evidence.specs.declared.Evidence.{Evidence}
use Rattle.evidence.specs.Evidence.{evidence_of, signed_on, exposed_on, receipted_on}
use Rattle.rules.specs.Rules.{chains_onto, genesis_head, next_form, next_form_of, witness_stages, changed, may_interact}
use Rattle.field.specs.Field.{item_of, items_of, config_of}
use Rattle.threshold_field.specs.ThresholdField.{threshold_of}
use Rattle.wire.specs.Wire.{sigers_of}
use Rattle.cursor.specs.declared.Listing.{Listing}
use Rattle.parts.specs.declared.HeadMarks.{HeadMarks}
use Rattle.parts.specs.declared.QuorumMarks.{QuorumMarks}
use Rattle.parts.specs.declared.SignersMarks.{SignersMarks}
use Rattle.parts.specs.declared.BodyMarks.{BodyMarks}
use Rattle.parts.specs.Parts.{head_of, commitment_of}
use Rattle.record.specs.declared.TailMarks.{TailMarks}
use Rattle.record.specs.declared.EventMarks.{EventMarks}
use Rattle.record.specs.declared.StateMarks.{StateMarks}

abbrev pub list_at : List ℕ → Listing → Items
list_at s l = items_of s l.count l.first

abbrev pub threshold_at : List ℕ → QuorumMarks → Threshold
threshold_at s q = threshold_of s q.threshold

abbrev pub evidence_at : List ℕ → TailMarks → ℕ → ℕ → Evidence
evidence_at s t keys next =
    evidence_of keys next (sigers_of s t.sigs.count t.sigs.first) (sigers_of s t.receipts.count t.receipts.first)

-- "next threshold if next is not empty"
abbrev pub next_form_at : List ℕ → QuorumMarks → ℕ → Answer
next_form_at s q next = next_form_of next (well_formed (threshold_at s q) next)

-- ---- "IC then: 11; for a basic prefix 12, 13, 14, and with code B also 15, 16, 17; witnesses 18, then 19"
abbrev pub identity_at : List ℕ → QuorumMarks → Item → ℕ → ℕ → ℕ → Answer
identity_at s own prefix next witnesses anchors = identity prefix (list_at s own.items) (threshold_at s own) next witnesses anchors

abbrev pub start_at : List ℕ → HeadMarks → BodyMarks → Item → ℕ → ℕ → ℕ → List Answer
start_at s h b prefix next witnesses anchors =
    genesis_head prefix h.sn
    ∷ identity_at s b.signers.authority prefix next witnesses anchors
    ∷ witness_faults 1 (listed (list_at s b.additions))
    ∷ []

-- "own threshold; signatures 27; next threshold if next is not empty"
abbrev pub keys_at : List ℕ → SignersMarks → ℕ → ℕ → Evidence → List Answer
keys_at s q keys next v =
    well_formed (threshold_at s q.authority) keys
    ∷ signed_on (threshold_at s q.authority) v
    ∷ next_form_at s q.commitment next
    ∷ []

-- "30 or 31; 32"
abbrev pub witnesses_at : ℕ → ℕ → Evidence → List Answer
witnesses_at toad witnesses v = witness_threshold toad witnesses ∷ receipted_on toad v witnesses ∷ []

-- ---- "RO: 33, 34, 35, 36; own threshold; next threshold if next is not empty; 27; 28"
abbrev pub chains_at : List ℕ → HeadMarks → List ℕ → HeadMarks → Answer
chains_at st old s h = chains_onto (item_of st old.prefix) old.sn (item_of st old.said) (head_of s h)

abbrev pub forms_at : List ℕ → SignersMarks → ℕ → List Answer
forms_at s q keys = well_formed (threshold_at s q.authority) keys ∷ next_form (commitment_of s q.commitment) ∷ []

-- 27 of the keys that the event brings, 28 of what the state committed to
abbrev pub signed_at : List ℕ → QuorumMarks → List ℕ → QuorumMarks → Evidence → List Answer
signed_at st old s own v = signed_on (threshold_at s own) v ∷ exposed_on (threshold_at st old) v ∷ []

abbrev pub opening_at : List ℕ → StateMarks → List ℕ → EventMarks → ℕ → Evidence → List Answer
opening_at st sm s m keys v =
    chains_at st sm.head s m.head
    ∷ well_formed (threshold_at s m.body.signers.authority) keys
    ∷ next_form (commitment_of s m.body.signers.commitment)
    ∷ signed_at st sm.body.signers.commitment s m.body.signers.authority v

-- "18 removals, 18 additions, 20, 19 removals, 19 additions, 21, 22; 38; 30 or 31; 32"
abbrev pub rewitness_at : List Item → List Item → List Item → ℕ → Evidence → Answer
rewitness_at current cuts adds toad v =
    first_refusal (witness_stages (change_faults current cuts adds) (updated current cuts adds) toad (receipted_on toad v))

abbrev pub changed_at : List Item → List Item → List Item → ℕ → Evidence → Change
changed_at current cuts adds toad v = changed (rewitness_at current cuts adds toad v) (updated current cuts adds)

-- ---- "IX: 37; 33, 34, 35, 36; 27 with the state's keys; 32 with the state's witnesses"
abbrev pub moving_at : List ℕ → StateMarks → List ℕ → HeadMarks → List Answer
moving_at st sm s h = may_interact (config_of st sm.body.config.count sm.body.config.first) ∷ chains_at st sm.head s h ∷ []

abbrev pub standing_at : List ℕ → BodyMarks → Evidence → List Answer
standing_at st held v = signed_on (threshold_at st held.signers.authority) v ∷ receipted_on held.toad v (list_at st held.additions).count ∷ []
