-- The parts of records by their places against layout's groups by value: scanning a group and copying what stands at its marks
-- is reading it. Assumes nothing.
use mathlib.Core.Path.{◌≡◌, refl}
use mathlib.Core.List.{List, []}
use Prim.Native.Nat.{ℕ}
use native.Mathlib.Nat.{le_refl}
use lib.ListN.{length}
use Rattle.item.specs.declared.Kind.TheVariants.{Prefix, Key, Said}
use Rattle.items.specs.declared.Items.{Items}
use Rattle.items.specs.Items.{packed}
use Rattle.config.specs.declared.Config.{Config}
use Rattle.config.specs.Config.{packed_traits}
use Rattle.state.specs.State.{no_threshold}
use Rattle.format.specs.Parse.{num_at}
use Rattle.format.specs.Fields.{sn_at}
use Rattle.layout.specs.Records.{first_head_at, later_head_at, authority_at, commitment_at, inception_body_at, rotation_body_at, no_body}
use Rattle.cursor.specs.declared.Listing.{Listing}
use Rattle.cursor.specs.Spans.{mapped}
use Rattle.cursor.proofs.Laws.{as_is, at_place, flat, many_none}
use Rattle.field.specs.Field.{place_at, items_place_at, config_place_at, byte_of, item_of, items_of, config_of}
use Rattle.field.proofs.Laws.{item_none, item_value, items_value, config_value}
use Rattle.threshold_field.specs.ThresholdField.{marks_at, threshold_of, simple_marks, weight_of}
use Rattle.threshold_field.proofs.Laws.{threshold_values}
use Rattle.parts.specs.Parts.{first_head_places, later_head_places, quorum_places, signers_places, inception_body_places, rotation_body_places, no_body_marks, head_of, authority_of, commitment_of, body_of}

-- what stands at a list's count and first place
abbrev pub items_as : List ℕ → Listing → Items
items_as s m = items_of s m.count m.first

abbrev pub config_as : List ℕ → Listing → Config
config_as s m = config_of s m.count m.first

-- ---- Nothing, nowhere
no_items : (s : List ℕ) → items_of s 0 0 ≡ packed []
unfolding items_of
no_items s = rw (many_none (item_of s) 33 16 s)

no_traits : (s : List ℕ) → config_of s 0 0 ≡ packed_traits []
unfolding config_of
no_traits s = rw (many_none (byte_of s) 1 8 s)

no-threshold : (s : List ℕ) → threshold_of s (simple_marks 0) ≡ no_threshold
no-threshold s = rw (many_none (byte_of s) 1 16 s, many_none (weight_of s) 16 16 s)

pub no_body_lem : (s : List ℕ) → body_of s no_body_marks ≡ no_body
no_body_lem s = rw (no_items s, no_traits s, no-threshold s)

-- ---- Groups of fields
module _ (s : List ℕ) (at : ℕ) where
  pub first_head_value : mapped (head_of s) (first_head_places s at) ≡ first_head_at s at
  unfolding first_head_places first_head_at
  first_head_value =
      at_place (head_of s) (item_of s) (place_at Prefix s at) _ _ _ (item_value Prefix s at) λ prefix p.
      as_is (head_of s) (sn_at s p) _ _ λ sn q.
      at_place (head_of s) (item_of s) (place_at Said s q) _ _ _ (item_value Said s q) λ said n.
      rw (← item_none s (length s) (le_refl (length s)))

  pub authority_value : mapped (authority_of s) (quorum_places Key s at) ≡ authority_at s at
  unfolding quorum_places authority_at
  authority_value =
      at_place (authority_of s) (items_as s) (items_place_at Key s at) _ _ _ (items_value Key s at) λ m p.
      at_place (authority_of s) (threshold_of s) (marks_at s p) _ _ _ (threshold_values s p) λ t n. refl

  pub commitment_value : mapped (commitment_of s) (quorum_places Said s at) ≡ commitment_at s at
  unfolding quorum_places commitment_at
  commitment_value =
      at_place (commitment_of s) (items_as s) (items_place_at Said s at) _ _ _ (items_value Said s at) λ m p.
      at_place (commitment_of s) (threshold_of s) (marks_at s p) _ _ _ (threshold_values s p) λ t n. refl

pub later_head_value : (s : List ℕ) (at : ℕ) → mapped (head_of s) (later_head_places s at) ≡ later_head_at s at
unfolding later_head_places later_head_at
later_head_value s at =
    at_place (head_of s) (head_of s) (first_head_places s at) _ _ _ (first_head_value s at) λ h p.
    at_place (head_of s) (item_of s) (place_at Said s p) _ _ _ (item_value Said s p) λ prior n. refl

-- the signers first, then the rest of a body
module _ (s : List ℕ) (at : ℕ) where
  pub inception_body_value : mapped (body_of s) (inception_body_places s at) ≡ inception_body_at s at
  unfolding inception_body_places inception_body_at signers_places
  inception_body_value =
      flat (body_of s) (quorum_places Key s at) _ _
      (at_place (body_of s) (authority_of s) (quorum_places Key s at) _ _ _ (authority_value s at) λ a p.
      flat (body_of s) (quorum_places Said s p) _ _
      (at_place (body_of s) (commitment_of s) (quorum_places Said s p) _ _ _ (commitment_value s p) λ c q.
      at_place (body_of s) (items_as s) (items_place_at Key s q) _ _ _ (items_value Key s q) λ w t.
      as_is (body_of s) (num_at 4 s t) _ _ λ toad u.
      at_place (body_of s) (config_as s) (config_place_at s u) _ _ _ (config_value s u) λ f n. rw (no_items s)))

  pub rotation_body_value : mapped (body_of s) (rotation_body_places s at) ≡ rotation_body_at s at
  unfolding rotation_body_places rotation_body_at signers_places
  rotation_body_value =
      flat (body_of s) (quorum_places Key s at) _ _
      (at_place (body_of s) (authority_of s) (quorum_places Key s at) _ _ _ (authority_value s at) λ a p.
      flat (body_of s) (quorum_places Said s p) _ _
      (at_place (body_of s) (commitment_of s) (quorum_places Said s p) _ _ _ (commitment_value s p) λ c q.
      at_place (body_of s) (items_as s) (items_place_at Key s q) _ _ _ (items_value Key s q) λ x t.
      at_place (body_of s) (items_as s) (items_place_at Key s t) _ _ _ (items_value Key s t) λ y u.
      as_is (body_of s) (num_at 4 s u) _ _ λ toad n. rw (no_traits s)))
