-- What demand 2's definition shuts out: a holder that always refuses, one with a constant answer, and one that says 0 and does
-- nothing. By three offers that antt computes. Assumes nothing.
use mathlib.Core.Path.{◌≡◌, refl, ap}
use mathlib.Core.List.{◌∷◌, []}
use mathlib.Core.Bool.{true, false}
use Prim.Native.Nat.{ℕ}
use lib.ListN.{replicate}
use Rattle.lists.specs.Lists.{any, all, same_numbers}
use Rattle.number.specs.Number.{small, same_number}
use Rattle.answer.specs.Answer.{refused, accepted, passes, first_refusal, first_fault}
use Rattle.item.specs.declared.Item.{Item}
use Rattle.item.specs.Item.{class_of, same_item, zero_item}
use Rattle.items.specs.Items as items
use Rattle.config.specs.Config as config
use Rattle.places.specs.Places.{chosen}
use Rattle.threshold.specs.declared.Threshold.{Threshold}
use Rattle.threshold.specs.Threshold as threshold
use Rattle.verification.specs.declared.Siger.{Siger}
use Rattle.verification.specs.Verification as verification
use Rattle.authority.specs.Authority.{quorum, receipts}
use Rattle.member_set.specs.Members.{repeat_from, witness_faults}
use Rattle.toad.specs.Toad.{witness_threshold}
use Rattle.inception.specs.Identity.{identity}
use Rattle.event.specs.declared.Ilk.{Ilk}
use Rattle.event.specs.declared.Ilk.TheVariants.{Inception, DelegatedInception}
use Rattle.event.specs.declared.Event.{Event}
use Rattle.shape.specs.Event.{first_head, own_shape, next_shape, body_shape, signed_shape, event_shape}
use Rattle.state.specs.State.{is_held, no_threshold}
use Rattle.shape.specs.State.{holder_shape}
use Rattle.rules.specs.Rules.{inception}
use Rattle.ingest.specs.Judgement.{offered, answer_to, judgement}
use Rattle.empty.specs.Empty.{nothing}
use Rattle.history.specs.History.{after}
use Rattle.history.proofs.Steps.{moves}

abbrev item : ℕ → Item
item c = record { code = c; raw = replicate 32 7 }

abbrev one : Threshold
one = record { tag = 0; simple = 1; clauses = 0; sizes = replicate 16 0; weights = replicate 16 (record { num = 0; den = 0 }) }

abbrev signature : Siger
signature =
    record {
      code = 65;
      index = record { 0 = 0 };
      dual = false;
      ondex = record { 0 = 0 };
      raw = replicate 64 9;
      verified = true;
      matches = false;
    }

-- an event of one key, signed by it: a digest prefix, no next keys, no witnesses
abbrev event : Ilk → Event
event ilk =
    record {
      ilk = ilk;
      head = record { prefix = item 69; sn = small 0; said = item 69; prior = zero_item };
      body =
          record {
            authority = record { keys = items.packed (item 68 ∷ []); threshold = one };
            commitment = record { next = items.packed []; threshold = no_threshold };
            additions = items.packed [];
            removals = items.packed [];
            toad = 0;
            config = config.packed_traits [];
          };
      anchors = 0;
      sigs = verification.packed_sigers (signature ∷ []);
      receipts = verification.packed_sigers [];
    }

pub accepts : (offered nothing (event Inception)).answer ≡ accepted
unfolding offered answer_to judgement holder_shape is_held event_shape first_head body_shape own_shape next_shape signed_shape first_fault first_refusal class_of items.shape_of config.shape_of threshold.shape_of verification.shape_of any all inception same_number identity same_item same_numbers witness_faults repeat_from witness_threshold threshold.well_formed threshold.sum quorum threshold.judged chosen verification.verified_at verification.firsts verification.same_wire receipts
accepts = refl

pub refuses : (offered nothing (event DelegatedInception)).answer ≡ refused 6 0 0
unfolding offered answer_to judgement holder_shape is_held event_shape first_refusal
refuses = refl

-- the accepted inception is held, where nothing was
pub holds : is_held (after nothing (event Inception)) ≡ true
unfolding is_held
holds = ap is_held (moves nothing (event Inception) (ap passes accepts))

pub held-nothing : is_held nothing ≡ false
unfolding is_held
held-nothing = refl
