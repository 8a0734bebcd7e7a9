-- Records by their places against layout's records by value: scanning a record and copying what stands at its marks is reading
-- it. Assumes nothing.
use mathlib.Core.Path.{◌≡◌, refl, sym, ap, ap₂, ◌∙◌}
use mathlib.Core.Bool.{Bool, true, false}
use mathlib.Core.List.{List}
use Prim.Native.Nat.{ℕ}
use lib.Dec.{eqb}
use lib.ListN.{length}
use Rattle.lists.specs.Lists.{pick}
use Rattle.lists.proofs.Padding.{padded-used}
use Rattle.item.specs.declared.Kind.TheVariants.{Key, Said}
use Rattle.verification.specs.declared.Siger.{Siger}
use Rattle.verification.specs.declared.Sigers.{Sigers}
use Rattle.verification.specs.Verification.{signatures, packed_sigers, no_siger}
use Rattle.evidence.specs.Evidence.{evidence_of}
use Rattle.event.specs.declared.Ilk.{Ilk}
use Rattle.event.specs.declared.Ilk.TheVariants.{Inception, Rotation, Interaction}
use Rattle.event.specs.declared.Body.{Body}
use Rattle.event.specs.declared.Event.{Event}
use Rattle.state.specs.declared.KeyState.{KeyState}
use Rattle.format.specs.Parse.{Parse, got, bad, bind, num_at, ended}
use Rattle.format.specs.Fields.{sn_at, flag_at}
use Rattle.layout.specs.Records.{tail_at, inception_at, rotation_at, interaction_at, latest_at, snapshot_at}
use Rattle.cursor.specs.declared.Listing.{Listing}
use Rattle.cursor.specs.Spans.{mapped}
use Rattle.cursor.proofs.Laws.{as_is, at_place, flat}
use Rattle.field.specs.Field.{place_at, items_place_at, config_place_at, item_of}
use Rattle.field.proofs.Laws.{item_value, items_value, config_value}
use Rattle.wire.specs.Wire.{sigers_span, sigers_of}
use Rattle.wire.proofs.Laws.{sigers_values}
use Rattle.parts.specs.declared.HeadMarks.{HeadMarks}
use Rattle.parts.specs.declared.BodyMarks.{BodyMarks}
use Rattle.parts.specs.Parts.{first_head_places, later_head_places, quorum_places, signers_places, inception_body_places, rotation_body_places, no_body_marks, head_of, authority_of, commitment_of, body_of}
use Rattle.parts.proofs.Laws.{items_as, config_as, no_body_lem, first_head_value, later_head_value, authority_value, commitment_value, inception_body_value, rotation_body_value}
use Rattle.record.specs.declared.TailMarks.{TailMarks}
use Rattle.record.specs.declared.EventMarks.{EventMarks}
use Rattle.record.specs.declared.StateMarks.{StateMarks}
use Rattle.record.specs.Marks.{tail_places, inception_places, rotation_places, interaction_places, last_places, snapshot_places, state_of, event_of}

-- the signatures at a list's count and first place
abbrev sigers_as : List ℕ → Listing → Sigers
sigers_as s m = packed_sigers (sigers_of s m.count m.first)

-- ---- Chains of fields, beside those of cursor
-- a last group that is only put into a record
closing : {A B C : Type 0} (g : B → C) (f : A → B) (p : Parse A) → mapped g (bind p (λ a n. got (f a) n)) ≡ mapped (λ a. g (f a)) p
closing g f (got a n) = refl
closing g f (bad r) = refl

-- nothing is left over
over : {A B : Type 0} (g : A → B) (b : Bool) (a : A) (n : ℕ) → mapped g (pick b (got a n) (bad 3)) ≡ pick b (got (g a) n) (bad 3)
over g true a n = refl
over g false a n = refl

over_closing : {A B C : Type 0} (g : B → C) (f : A → B) (b : Bool) (a : A) (n : ℕ)
    → mapped g (bind (pick b (got a n) (bad 3)) (λ x m. got (f x) m)) ≡ pick b (got (g (f a)) n) (bad 3)
over_closing g f true a n = refl
over_closing g f false a n = refl

tail_value : (ilk : Ilk) (s : List ℕ) (h : HeadMarks) (b : BodyMarks) (at : ℕ)
    → mapped (λ (t : TailMarks). event_of ilk s (record { head = h; body = b; tail = t })) (tail_places s at) ≡ tail_at ilk (head_of s h) (body_of s b) s at
unfolding tail_places tail_at ended
tail_value ilk s h b at =
    let g : TailMarks → Event = λ t. event_of ilk s (record { head = h; body = b; tail = t }) in
    as_is g (num_at 4 s at) _ _ λ anchors p.
    at_place g (sigers_as s) (sigers_span s p) _ _ _ (sigers_values s p) λ x q.
    at_place g (sigers_as s) (sigers_span s q) _ _ _ (sigers_values s q) λ y n.
    over g (eqb n (length s)) _ n

-- ---- Whole records
module _ (s : List ℕ) (at : ℕ) where
  pub inception_value : mapped (event_of Inception s) (inception_places s at) ≡ inception_at s at
  unfolding inception_places inception_at
  inception_value =
      let g : EventMarks → Event = event_of Inception s in
      at_place g (head_of s) (first_head_places s at) _ _ _ (first_head_value s at) λ h p.
      at_place g (body_of s) (inception_body_places s p) _ _ _ (inception_body_value s p) λ b q.
      closing g (λ t. record { head = h; body = b; tail = t }) (tail_places s q) ∙ tail_value Inception s h b q

  pub rotation_value : mapped (event_of Rotation s) (rotation_places s at) ≡ rotation_at s at
  unfolding rotation_places rotation_at
  rotation_value =
      let g : EventMarks → Event = event_of Rotation s in
      at_place g (head_of s) (later_head_places s at) _ _ _ (later_head_value s at) λ h p.
      at_place g (body_of s) (rotation_body_places s p) _ _ _ (rotation_body_value s p) λ b q.
      closing g (λ t. record { head = h; body = b; tail = t }) (tail_places s q) ∙ tail_value Rotation s h b q

  pub interaction_value : mapped (event_of Interaction s) (interaction_places s at) ≡ interaction_at s at
  unfolding interaction_places interaction_at
  interaction_value =
      let g : EventMarks → Event = event_of Interaction s in
      at_place g (head_of s) (later_head_places s at) _ _ _ (later_head_value s at) λ h p.
      closing g (λ t. record { head = h; body = no_body_marks; tail = t }) (tail_places s p)
      ∙ tail_value Interaction s h no_body_marks p
      ∙ ap (λ (b : Body). tail_at Interaction (head_of s h) b s p) (no_body_lem s)

  pub snapshot_value : mapped (state_of s) (snapshot_places s at) ≡ snapshot_at s at
  unfolding snapshot_places snapshot_at inception_body_places signers_places last_places ended
  snapshot_value =
      let g : StateMarks → KeyState = state_of s in
      at_place g (head_of s) (first_head_places s at) _ _ _ (first_head_value s at) λ h p.
      as_is g (latest_at s p) _ _ λ latest q.
      flat g (signers_places s q) _ _
      (flat g (quorum_places Key s q) _ _
      (at_place g (authority_of s) (quorum_places Key s q) _ _ _ (authority_value s q) λ a r.
      flat g (quorum_places Said s r) _ _
      (at_place g (commitment_of s) (quorum_places Said s r) _ _ _ (commitment_value s r) λ c t.
      flat g (items_place_at Key s t) _ _
      (at_place g (items_as s) (items_place_at Key s t) _ _ _ (items_value Key s t) λ w u.
      flat g (num_at 4 s u) _ _
      (as_is g (num_at 4 s u) _ _ λ toad v.
      flat g (config_place_at s v) _ _
      (at_place g (config_as s) (config_place_at s v) _ _ _ (config_value s v) λ f x.
      flat g (flag_at s x) _ _
      (as_is g (flag_at s x) _ _ λ transferable y.
      flat g (sn_at s y) _ _
      (as_is g (sn_at s y) _ _ λ sn z.
      flat g (place_at Said s z) _ _
      (at_place g (item_of s) (place_at Said s z) _ _ _ (item_value Said s z) λ said n.
      over_closing g _ (eqb n (length s)) _ n)))))))))

-- what was read by places is, by value, what the layout reads
module _ (s : List ℕ) (at : ℕ) where
  pub inception_read : (x : Parse EventMarks) → x ≡ inception_places s at → mapped (event_of Inception s) x ≡ inception_at s at
  inception_read x e = ap (mapped (event_of Inception s)) e ∙ inception_value s at

  pub rotation_read : (x : Parse EventMarks) → x ≡ rotation_places s at → mapped (event_of Rotation s) x ≡ rotation_at s at
  rotation_read x e = ap (mapped (event_of Rotation s)) e ∙ rotation_value s at

  pub interaction_read : (x : Parse EventMarks) → x ≡ interaction_places s at → mapped (event_of Interaction s) x ≡ interaction_at s at
  interaction_read x e = ap (mapped (event_of Interaction s)) e ∙ interaction_value s at

  pub snapshot_read : (x : Parse StateMarks) → x ≡ snapshot_places s at → mapped (state_of s) x ≡ snapshot_at s at
  snapshot_read x e = ap (mapped (state_of s)) e ∙ snapshot_value s at

-- packed and read back
used : (xs : List Siger) → signatures (packed_sigers xs) ≡ xs
used xs = padded-used no_siger 48 xs

pub evidence_as : (keys next : ℕ) (sigs wigs : List Siger) → evidence_of keys next sigs wigs ≡ evidence_of keys next (signatures (packed_sigers sigs)) (signatures (packed_sigers wigs))
evidence_as keys next sigs wigs = sym (ap₂ (λ (x y : List Siger). evidence_of keys next x y) (used sigs) (used wigs))
