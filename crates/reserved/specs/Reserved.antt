-- Request 14: document 01's list of checks for an inception, less 29. rules/specs/Rules has the whole of it.
use Rattle.std.specs.Prelude.{ℕ, [], ◌∷◌}
use Rattle.answer.specs.declared.Answer.{Answer}
use Rattle.answer.specs.Answer.{first_refusal}
use Rattle.items.specs.Items.{listed}
use Rattle.member_set.specs.Members.{witness_faults}
use Rattle.event.specs.declared.Head.{Head}
use Rattle.event.specs.declared.Body.{Body}
use Rattle.rules.specs.Rules.{genesis_sn, identity_of, own_form, next_form, toad_fits}

-- "11; for a basic prefix 12, 13, 14, and with code B also 15, 16, 17; witnesses 18, then 19; own threshold; signatures 27; next
-- threshold if next is not empty; [29;] 30 or 31; 32"
unfoldable pub inception_without29 : Head → Body → ℕ → Answer → (ℕ → Answer) → Answer
inception_without29 h b anchors signed receipted =
    first_refusal (
    genesis_sn h.sn
    ∷ identity_of h b anchors
    ∷ witness_faults 1 (listed b.additions)
    ∷ own_form b.authority
    ∷ signed
    ∷ next_form b.commitment
    ∷ toad_fits b b.additions.count
    ∷ receipted b.additions.count
    ∷ [])
