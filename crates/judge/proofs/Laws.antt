-- From what stands at marks to the judgements by value: the prefix, the counts and the evidence are put back where they came
-- from. Assumes nothing.
use mathlib.Core.Path.{◌≡◌, refl, sym, ◌∙◌, ap, ap₂}
use mathlib.Core.Bool.{Bool, true, false}
use mathlib.Core.List.{List, ◌∷◌, ◌++◌, []}
use Prim.Native.Nat.{ℕ, ◌+◌, ◌*◌, ◌≤◌}
use native.Mathlib.Omega.{arith}
use lib.Dec.{eqb, leb}
use lib.ListN.{length}
use borrow.Author.Tests.{le-leb, leb-true, eqb-true}
use Rattle.lists.specs.Lists.{pick, both, any, filter}
use Rattle.lists.proofs.Facts.{both_true}
use Rattle.answer.specs.declared.Answer.{Answer}
use Rattle.answer.specs.declared.Refusal.{Refusal}
use Rattle.answer.specs.Refusal.{answer_of}
use Rattle.answer.specs.Answer.{accepted, first_refusal}
use Rattle.answer.proofs.Laws.{clean_first, last, grouped, tail_same}
use Rattle.answer.proofs.Results.{stops, goes_on}
use Rattle.item.specs.declared.Item.{Item}
use Rattle.items.specs.declared.Items.{Items}
use Rattle.items.specs.Items.{listed, packed}
use Rattle.items.proofs.Laws.{listed-packed}
use Rattle.toad.specs.Toad.{witness_threshold}
use Rattle.member_set.specs.Members.{repeat_from, absent, witness_faults, change_faults, joined, updated, change_of}
use Rattle.verification.specs.Verification.{signatures, packed_sigers}
use Rattle.event.specs.declared.Ilk.TheVariants.{Inception, Rotation, Interaction}
use Rattle.evidence.specs.declared.Evidence.{Evidence}
use Rattle.evidence.specs.Evidence.{evidence_of, signed_on, receipted_on}
use Rattle.rules.specs.Rules.{of_prefix, interaction, rewitness, rotation, witness_stages, changed, new_witnesses}
use Rattle.reserved.proofs.Laws.{incepts}
use Rattle.ingest.specs.Judgement.{incepted, rotates, interacts}
use Rattle.ingest.proofs.Laws.{incept_lists, rotate_lists, interact_lists}
use Rattle.cursor.specs.Spans.{list_of, many_of}
use Rattle.cursor.proofs.Laws.{list_length}
use Rattle.field.specs.Field.{item_of, items_of}
use Rattle.wire.specs.Wire.{sigers_of}
use Rattle.cursor.specs.declared.Listing.{Listing}
use Rattle.parts.specs.Parts.{head_of, body_of}
use Rattle.record.specs.declared.TailMarks.{TailMarks}
use Rattle.record.specs.declared.EventMarks.{EventMarks}
use Rattle.record.specs.declared.StateMarks.{StateMarks}
use Rattle.record.specs.Marks.{state_of, event_of}
use Rattle.record.proofs.Laws.{evidence_as}
use Rattle.judge.specs.Parts.{list_at, threshold_at, evidence_at, start_at, keys_at, witnesses_at, opening_at, moving_at, standing_at, rewitness_at, changed_at}

-- ---- what is not looked at
none_of : (s : List ℕ) (p : ℕ) → many_of (item_of s) 33 16 s 0 p ≡ []
unfolding many_of list_of
none_of s p = by_test (both (leb 0 16) (leb (p + 0 * 33) (length s)))
  where
    by_test : (b : Bool) → pick {A = List Item} b [] [] ≡ []
    by_test true = refl
    by_test false = refl

nothing_at : (s : List ℕ) (n p : ℕ) → n ≡ 0 → listed (items_of s n p) ≡ []
unfolding items_of
nothing_at s n p z = rw z (listed-packed (many_of (item_of s) 33 16 s 0 p) ∙ none_of s p)

no_faults : accepted ≡ witness_faults 1 []
unfolding witness_faults first_refusal repeat_from any
no_faults = refl

pub no_witnesses : (s : List ℕ) (n p : ℕ) → n ≡ 0 → accepted ≡ witness_faults 1 (listed (items_of s n p))
no_witnesses s n p z = rw (nothing_at s n p z) no_faults

-- ---- signatures where they stand
gathered : (s : List ℕ) (t : TailMarks) (keys next keys' next' : ℕ) (v : Evidence) → v ≡ evidence_at s t keys next → keys ≡ keys' → next ≡ next'
    → v ≡ evidence_of keys' next' (signatures (packed_sigers (sigers_of s t.sigs.count t.sigs.first))) (signatures (packed_sigers (sigers_of s t.receipts.count t.receipts.first)))
gathered s t keys next keys' next' v e k n =
    e
    ∙ ap₂ (λ (x y : ℕ). evidence_at s t x y) k n
    ∙ evidence_as keys' next' (sigers_of s t.sigs.count t.sigs.first) (sigers_of s t.receipts.count t.receipts.first)

-- ---- an inception from its groups of checks
module _ (s : List ℕ) (m : EventMarks) (prefix : Item) (next witnesses : ℕ)
    (ep : prefix ≡ item_of s m.head.prefix)
    (en : next ≡ (list_at s m.body.signers.commitment.items).count)
    (ew : witnesses ≡ (list_at s m.body.additions).count) where
  abbrev start : List Answer
  start = start_at s m.head m.body prefix next witnesses m.tail.anchors

  abbrev begins : Answer
  begins = of_prefix (item_of s m.head.prefix) (incepted (event_of Inception s m))

  inception_at_lem : (keys : ℕ) (v : Evidence) → keys ≡ (list_at s m.body.signers.authority.items).count → v ≡ evidence_at s m.tail keys 0
      → first_refusal (first_refusal start ∷ first_refusal (keys_at s m.body.signers keys next v) ∷ first_refusal (witnesses_at m.body.toad witnesses v) ∷ []) ≡ begins
  inception_at_lem keys v ek ev =
      rw (ep, ek, en, ew)
      (incepts (head_of s m.head) (body_of s m.body) m.tail.anchors (signed_on (threshold_at s m.body.signers.authority) v) (receipted_on m.body.toad v)
      ∙ ap (of_prefix (item_of s m.head.prefix)) (incept_lists (event_of Inception s m) v (gathered s m.tail keys 0 _ 0 v ev ek refl)))

  pub start_stops : (r : Refusal) → answer_of r ≡ first_refusal start → answer_of r ≡ begins
  start_stops r e = stops r _ _ e ∙ inception_at_lem _ _ refl refl

  module _ (keys : ℕ) (v : Evidence) (began : accepted ≡ first_refusal start)
      (ek : keys ≡ (list_at s m.body.signers.authority.items).count) (ev : v ≡ evidence_at s m.tail keys 0) where
    pub keys_stop : (r : Refusal) → answer_of r ≡ first_refusal (keys_at s m.body.signers keys next v) → answer_of r ≡ begins
    keys_stop r e = stops r _ _ e ∙ sym (goes_on _ _ began) ∙ inception_at_lem keys v ek ev

    pub witnesses_answer : accepted ≡ first_refusal (keys_at s m.body.signers keys next v) → (x : Answer) → x ≡ first_refusal (witnesses_at m.body.toad witnesses v) → x ≡ begins
    witnesses_answer good x e =
        last x _ (clean_first (witnesses_at m.body.toad witnesses v)) e ∙ sym (goes_on _ _ good) ∙ sym (goes_on _ _ began) ∙ inception_at_lem keys v ek ev

-- ---- an interaction from its groups of checks
module _ (st : List ℕ) (sm : StateMarks) (s : List ℕ) (m : EventMarks) where
  abbrev moves : Answer
  moves = interacts (state_of st sm) (event_of Interaction s m)

  interaction_at_lem : (keys : ℕ) (v : Evidence) → keys ≡ (list_at st sm.body.signers.authority.items).count → v ≡ evidence_at s m.tail keys 0
      → first_refusal (first_refusal (moving_at st sm s m.head) ∷ first_refusal (standing_at st sm.body v) ∷ []) ≡ moves
  unfolding interaction
  interaction_at_lem keys v ek ev =
      grouped (moving_at st sm s m.head) (first_refusal (standing_at st sm.body v) ∷ [])
      ∙ tail_same (moving_at st sm s m.head) (first_refusal (standing_at st sm.body v) ∷ []) (standing_at st sm.body v) (sym (last _ _ (clean_first (standing_at st sm.body v)) refl))
      ∙ interact_lists (state_of st sm) (event_of Interaction s m) v (gathered s m.tail keys 0 _ 0 v ev ek refl)

  pub standing_answers : (keys : ℕ) (v : Evidence) → accepted ≡ first_refusal (moving_at st sm s m.head)
      → keys ≡ (list_at st sm.body.signers.authority.items).count → v ≡ evidence_at s m.tail keys 0
      → (x : Answer) → x ≡ first_refusal (standing_at st sm.body v) → x ≡ moves
  standing_answers keys v good ek ev x e =
      last x _ (clean_first (standing_at st sm.body v)) e ∙ sym (goes_on _ _ good) ∙ interaction_at_lem keys v ek ev

-- ---- a rotation
-- no cuts and no additions leave the list as it is, without a fault
all_kept : (xs : List Item) → filter (absent []) xs ≡ xs
unfolding filter any
all_kept [] = refl
all_kept (x ∷ xs) = ap (λ (ys : List Item). x ∷ ys) (all_kept xs)

updated_same : (xs : List Item) → updated xs [] [] ≡ xs
unfolding updated joined
updated_same xs = all_kept xs

no_change_faults : (xs : List Item) → accepted ≡ change_faults xs [] []
unfolding change_faults first_refusal repeat_from any
no_change_faults xs = refl

-- what is left to check of a list that was kept
kept_stages : (faults : Answer) (new xs : List Item) (toad : ℕ) (receipted : ℕ → Answer) → accepted ≡ faults → new ≡ xs → length xs ≤ 16
    → first_refusal (witness_stages faults new toad receipted) ≡ first_refusal (witness_threshold toad (length xs) ∷ receipted (length xs) ∷ [])
unfolding first_refusal change_of
kept_stages faults new xs toad receipted clean same few = rw (← clean, same, le-leb (length xs) 16 few)

few_at : (s : List ℕ) (n p : ℕ) → length (many_of (item_of s) 33 16 s n p) ≤ 16
unfolding many_of
few_at s n p = by_tests (leb n 16) refl (leb (p + n * 33) (length s))
  where
    by_tests : (b : Bool) → leb n 16 ≡ b → (c : Bool) → length (pick (both b c) (list_of (item_of s) 33 n p) []) ≤ 16
    by_tests true e true = rw (list_length (item_of s) 33 n p) (leb-true n 16 e)
    by_tests true e false = omega arith
    by_tests false e c = omega arith

-- a list at a place is the struct of what it lists, at most 16
module _ (s : List ℕ) (n p : ℕ) where
  pub packed_at : items_of s n p ≡ packed (listed (items_of s n p))
  unfolding items_of
  packed_at = ap packed (sym (listed-packed (many_of (item_of s) 33 16 s n p)))

  listed_few : length (listed (items_of s n p)) ≤ 16
  unfolding items_of
  listed_few = rw (listed-packed (many_of (item_of s) 33 16 s n p)) (few_at s n p)

  listed_count : (items_of s n p).count ≡ length (listed (items_of s n p))
  listed_count = ap (λ (l : Items). l.count) packed_at

  -- so no change is 30 or 31, then 32, of that list
  pub unchanged_at : (toad : ℕ) (v : Evidence)
      → changed (first_refusal (witnesses_at toad (items_of s n p).count v)) (listed (items_of s n p)) ≡ changed_at (listed (items_of s n p)) [] [] toad v
  unchanged_at toad v =
      let xs = listed (items_of s n p) in
      ap₂ (λ (x : Answer) (ys : List Item). changed x ys)
      (ap (λ (k : ℕ). first_refusal (witnesses_at toad k v)) listed_count ∙ sym (kept_stages _ _ xs toad (receipted_on toad v) (no_change_faults xs) (updated_same xs) listed_few))
      (sym (updated_same xs))

pub no_change : (xs : List Item) (s : List ℕ) (cut added : Listing) (toad : ℕ) (v : Evidence) → both (eqb cut.count 0) (eqb added.count 0) ≡ true
    → changed_at xs [] [] toad v ≡ changed_at xs (listed (list_at s cut)) (listed (list_at s added)) toad v
no_change xs s cut added toad v e =
    let none = both_true (eqb cut.count 0) (eqb added.count 0) e in
    ap₂ (λ (ys zs : List Item). changed_at xs ys zs toad v)
    (sym (nothing_at s cut.count cut.first (eqb-true cut.count 0 none.0)))
    (sym (nothing_at s added.count added.first (eqb-true added.count 0 none.1)))

module _ (st : List ℕ) (sm : StateMarks) (s : List ℕ) (m : EventMarks) where
  abbrev pub rewitness_in : Evidence → Answer
  rewitness_in v = rewitness_at (listed (list_at st sm.body.additions)) (listed (list_at s m.body.removals)) (listed (list_at s m.body.additions)) m.body.toad v

  abbrev turns : Answer
  turns = rotates (state_of st sm) (event_of Rotation s m)

  abbrev new : List Item
  new = new_witnesses (state_of st sm) (body_of s m.body)

  module _ (keys next : ℕ) (v : Evidence)
      (ek : keys ≡ (list_at s m.body.signers.authority.items).count)
      (ev : v ≡ evidence_at s m.tail keys next)
      (en : next ≡ (list_at st sm.body.signers.commitment.items).count) where
    rotation_at_lem : first_refusal (first_refusal (opening_at st sm s m keys v) ∷ rewitness_in v ∷ []) ≡ turns
    unfolding rotation rewitness
    rotation_at_lem =
        grouped (opening_at st sm s m keys v) (rewitness_in v ∷ [])
        ∙ ap (λ (n : ℕ). first_refusal (opening_at st sm s m n v ++ (rewitness_in v ∷ []))) ek
        ∙ rotate_lists (state_of st sm) (event_of Rotation s m) v (gathered s m.tail keys next _ _ v ev ek en)

    pub opening_stops : (r : Refusal) → answer_of r ≡ first_refusal (opening_at st sm s m keys v) → answer_of r ≡ turns
    opening_stops r e = stops r _ _ e ∙ rotation_at_lem

    pub rewitness_answers : accepted ≡ first_refusal (opening_at st sm s m keys v) → changed (rewitness_in v) new ≡ changed turns new
    rewitness_answers e =
        ap (λ (w : Answer). changed w new) (last (rewitness_in v) (rewitness_in v) (clean_first _) refl ∙ sym (goes_on _ _ e) ∙ rotation_at_lem)
