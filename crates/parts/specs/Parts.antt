-- The parts that records share by their places, in layout's groups and order, and what stands at the marks. proofs/Laws has
-- that the two together are layout's groups by value.
use Rattle.std.specs.Prelude.{ℕ, List, length}
use Rattle.item.specs.declared.Kind.{Kind}
use Rattle.item.specs.declared.Kind.TheVariants.{Prefix, Key, Said}
use Rattle.authority.specs.declared.Authority.{Authority}
use Rattle.authority.specs.declared.Commitment.{Commitment}
use Rattle.event.specs.declared.Head.{Head}
use Rattle.event.specs.declared.Body.{Body}
use Rattle.format.specs.Parse.{Parse, got, ◌>>=◌, num_at}
use Rattle.format.specs.Fields.{sn_at}
use Rattle.field.specs.Field.{place_at, items_place_at, config_place_at, item_of, items_of, config_of}
use Rattle.threshold_field.specs.ThresholdField.{marks_at, simple_marks, threshold_of}
use Rattle.cursor.specs.declared.Listing.{Listing}
use Rattle.parts.specs.declared.HeadMarks.{HeadMarks}
use Rattle.parts.specs.declared.QuorumMarks.{QuorumMarks}
use Rattle.parts.specs.declared.SignersMarks.{SignersMarks}
use Rattle.parts.specs.declared.BodyMarks.{BodyMarks}

-- ---- The places
-- nothing, nowhere
abbrev pub no_listing : Listing
no_listing = record { count = 0; first = 0 }

-- an inception has no prior: the end, where copying gives zeros
unfoldable pub first_head_places : List ℕ → ℕ → Parse HeadMarks
first_head_places s = do
  prefix ← place_at Prefix s
  sn ← sn_at s
  said ← place_at Said s
  got (record { prefix = prefix; sn = sn; said = said; prior = length s })

unfoldable pub later_head_places : List ℕ → ℕ → Parse HeadMarks
later_head_places s = do
  h ← first_head_places s
  prior ← place_at Said s
  got (record { prefix = h.prefix; sn = h.sn; said = h.said; prior = prior })

unfoldable pub quorum_places : Kind → List ℕ → ℕ → Parse QuorumMarks
quorum_places k s = do
  items ← items_place_at k s
  threshold ← marks_at s
  got (record { items = items; threshold = threshold })

unfoldable pub signers_places : List ℕ → ℕ → Parse SignersMarks
signers_places s = do
  authority ← quorum_places Key s
  commitment ← quorum_places Said s
  got (record { authority = authority; commitment = commitment })

unfoldable pub inception_body_places : List ℕ → ℕ → Parse BodyMarks
inception_body_places s = do
  signers ← signers_places s
  witnesses ← items_place_at Key s
  toad ← num_at 4 s
  config ← config_place_at s
  got (
      record {
        signers = signers;
        additions = witnesses;
        removals = no_listing;
        toad = toad;
        config = config;
      })

unfoldable pub rotation_body_places : List ℕ → ℕ → Parse BodyMarks
rotation_body_places s = do
  signers ← signers_places s
  additions ← items_place_at Key s
  removals ← items_place_at Key s
  toad ← num_at 4 s
  got (
      record {
        signers = signers;
        additions = additions;
        removals = removals;
        toad = toad;
        config = no_listing;
      })

-- what an interaction does not have: nothing, nowhere
abbrev pub no_quorum : QuorumMarks
no_quorum = record { items = no_listing; threshold = simple_marks 0 }

abbrev pub no_body_marks : BodyMarks
no_body_marks =
    record {
      signers = record { authority = no_quorum; commitment = no_quorum };
      additions = no_listing;
      removals = no_listing;
      toad = 0;
      config = no_listing;
    }

-- ---- What stands at the marks
abbrev pub head_of : List ℕ → HeadMarks → Head
head_of s m = record { prefix = item_of s m.prefix; sn = m.sn; said = item_of s m.said; prior = item_of s m.prior }

abbrev pub authority_of : List ℕ → QuorumMarks → Authority
authority_of s m = record { keys = items_of s m.items.count m.items.first; threshold = threshold_of s m.threshold }

abbrev pub commitment_of : List ℕ → QuorumMarks → Commitment
commitment_of s m = record { next = items_of s m.items.count m.items.first; threshold = threshold_of s m.threshold }

abbrev pub body_of : List ℕ → BodyMarks → Body
body_of s m =
    record {
      authority = authority_of s m.signers.authority;
      commitment = commitment_of s m.signers.commitment;
      additions = items_of s m.additions.count m.additions.first;
      removals = items_of s m.removals.count m.removals.first;
      toad = m.toad;
      config = config_of s m.config.count m.config.first;
    }
