-- The checks in order, by document 01's 'The checks in order'. Each rule is a list of stages, and the first that refuses
-- answers. What the signatures and receipts come to (27, 28, and 32 at a number of witnesses) is handed in, so that the same
-- list serves lists of signatures and sets of places.
use Rattle.std.specs.Prelude.{ℕ, List, [], ◌∷◌, true, Option, Some, None, eqb, length}
use Rattle.lists.specs.Lists.{pick}
use Rattle.number.specs.declared.Number.{Number}
use Rattle.number.specs.Number.{small, same_number, next_of}
use Rattle.answer.specs.declared.Answer.{Answer}
use Rattle.answer.specs.Answer.{refused, accepted, refuse_if, refuse_unless, first_refusal, passes}
use Rattle.item.specs.declared.Item.{Item}
use Rattle.item.specs.declared.Kind.TheVariants.{Prefix}
use Rattle.item.specs.Item.{same_item, is_transferable, item_shape}
use Rattle.items.specs.Items.{listed, packed}
use Rattle.config.specs.declared.Config.{Config}
use Rattle.config.specs.Config.{establishment_only}
use Rattle.threshold.specs.Threshold.{well_formed}
use Rattle.toad.specs.Toad.{witness_threshold}
use Rattle.member_set.specs.Members.{Change, witness_faults, change_faults, updated, change_of}
use Rattle.inception.specs.Identity.{identity}
use Rattle.authority.specs.declared.Authority.{Authority}
use Rattle.authority.specs.declared.Commitment.{Commitment}
use Rattle.event.specs.declared.Head.{Head}
use Rattle.event.specs.declared.Body.{Body}
use Rattle.state.specs.declared.KeyState.{KeyState}

-- ---- "33, 34, 35, 36"
abbrev pub identifier : Item → Head → Answer
identifier prefix h = refuse_unless (same_item prefix h.prefix) (refused 33 0 0)

-- 35's details: expected, actual
abbrev pub follows : Option Number → Number → Answer
follows (Some expected) actual = refuse_unless (same_number expected actual) (record { number = 35; a = expected; b = actual })
follows None actual = refused 34 0 0

abbrev pub prior : Item → Head → Answer
prior said h = refuse_unless (same_item said h.prior) (refused 36 0 0)

unfoldable pub chains_onto : Item → Number → Item → Head → Answer
chains_onto prefix sn said h = first_refusal (identifier prefix h ∷ follows (next_of sn) h.sn ∷ prior said h ∷ [])

abbrev pub chains : KeyState → Head → Answer
chains s h = chains_onto s.prefix s.sn s.said h

-- ---- "own threshold", "next threshold if next is not empty"
abbrev pub own_form : Authority → Answer
own_form a = well_formed a.threshold a.keys.count

abbrev pub next_form : Commitment → Answer
next_form c = pick (eqb c.next.count 0) accepted (well_formed c.threshold c.next.count)

-- the same by the number of next digests and what the next threshold's form comes to
abbrev pub next_form_of : ℕ → Answer → Answer
next_form_of next form = pick (eqb next 0) accepted form

-- ---- "IC then: 11; for a basic prefix 12, 13, 14, and with code B also 15, 16, 17; witnesses 18, then 19; own threshold;
-- signatures 27; next threshold if next is not empty; 29; 30 or 31; 32." 11's detail: sn.
abbrev pub genesis_sn : Number → Answer
genesis_sn sn = refuse_unless (same_number sn (small 0)) (record { number = 11; a = sn; b = small 0 })

abbrev pub identity_of : Head → Body → ℕ → Answer
identity_of h b anchors =
    identity h.prefix b.authority.keys b.authority.threshold b.commitment.next.count b.additions.count anchors

-- 29: a non-transferable prefix that commits to next keys. No code has this check: reserved/proofs/Laws has why.
abbrev pub may_commit : Item → Commitment → Answer
may_commit prefix c = refuse_unless (pick (eqb c.next.count 0) true (is_transferable prefix)) (refused 29 0 0)

abbrev pub toad_fits : Body → ℕ → Answer
toad_fits b witnesses = witness_threshold b.toad witnesses

unfoldable pub inception : Head → Body → ℕ → Answer → (ℕ → Answer) → Answer
inception h b anchors signed receipted =
    first_refusal (
    genesis_sn h.sn
    ∷ identity_of h b anchors
    ∷ witness_faults 1 (listed b.additions)
    ∷ own_form b.authority
    ∷ signed
    ∷ next_form b.commitment
    ∷ may_commit h.prefix b.commitment
    ∷ toad_fits b b.additions.count
    ∷ receipted b.additions.count
    ∷ [])

-- "3 for .. a byte outside its class"; "Numbers 1 to 4 come before all others". The entries have looked at all classes by now; a
-- direct call with a prefix that is none gets 3 as well.
abbrev pub prefix_shape : Item → Answer
prefix_shape prefix = refused (item_shape Prefix prefix) 0 0

abbrev pub of_prefix : Item → Answer → Answer
of_prefix prefix x = first_refusal (prefix_shape prefix ∷ x ∷ [])

-- how an inception begins: that, then 11
abbrev pub genesis_head : Item → Number → Answer
genesis_head prefix sn = first_refusal (prefix_shape prefix ∷ genesis_sn sn ∷ [])

-- ---- "18 removals, 18 additions, 20, 19 removals, 19 additions, 21, 22; 38; 30 or 31; 32": the receipts are asked of the
-- resulting list
abbrev pub new_witnesses : KeyState → Body → List Item
new_witnesses s b = updated (listed s.witnessing.witnesses) (listed b.removals) (listed b.additions)

abbrev pub witness_stages : Answer → List Item → ℕ → (ℕ → Answer) → List Answer
witness_stages faults new toad receipted =
    faults ∷ (change_of new).answer ∷ witness_threshold toad (length new) ∷ receipted (length new) ∷ []

unfoldable pub rewitness : List Item → Body → (ℕ → Answer) → Answer
rewitness current b receipted =
    first_refusal (
    witness_stages
    (change_faults current (listed b.removals) (listed b.additions))
    (updated current (listed b.removals) (listed b.additions))
    b.toad
    receipted)

-- a change's answer, with the new list where it passes
abbrev pub changed : Answer → List Item → Change
changed x new = record { answer = x; list = pick (passes x) (packed new) (packed []) }

-- ---- "RO: 33, 34, 35, 36; own threshold; next threshold if next is not empty; 27; 28; 18 removals, .. 32"
unfoldable pub rotation : KeyState → Head → Body → Answer → Answer → (ℕ → Answer) → Answer
rotation s h b signed exposed receipted =
    first_refusal (chains s h ∷ own_form b.authority ∷ next_form b.commitment ∷ signed ∷ exposed ∷ rewitness (listed s.witnessing.witnesses) b receipted ∷ [])

-- ---- "IX: 37; 33, 34, 35, 36; 27 with the state's keys; 32 with the state's witnesses"
abbrev pub may_interact : Config → Answer
may_interact c = refuse_if (establishment_only c) (refused 37 0 0)

unfoldable pub interaction : KeyState → Head → Answer → (ℕ → Answer) → Answer
interaction s h signed receipted =
    first_refusal (
    may_interact s.config
    ∷ chains s h
    ∷ signed
    ∷ receipted s.witnessing.witnesses.count
    ∷ [])
