-- The records, field by field in document 01's order, and what a byte string holds first.
use Rattle.std.specs.Prelude.{ℕ, ◌+◌, ◌*◌, List, [], ◌∷◌, Bool, true, false, leb, ltb, eqb, length, take, drop, get_or}
use Rattle.lists.specs.Lists.{pick, both}
use Rattle.number.specs.Number.{small}
use Rattle.item.specs.declared.Item.{Item}
use Rattle.item.specs.declared.Kind.TheVariants.{Prefix, Key, Said}
use Rattle.item.specs.Item.{zero_item}
use Rattle.items.specs.declared.Items.{Items}
use Rattle.items.specs.Items.{packed}
use Rattle.config.specs.declared.Config.{Config}
use Rattle.config.specs.Config.{packed_traits}
use Rattle.verification.specs.declared.Sigers.{Sigers}
use Rattle.verification.specs.Verification.{packed_sigers}
use Rattle.authority.specs.declared.Authority.{Authority}
use Rattle.authority.specs.declared.Commitment.{Commitment}
use Rattle.event.specs.declared.Ilk.{Ilk}
use Rattle.event.specs.declared.Ilk.TheVariants.{Inception, Rotation, Interaction, DelegatedInception, DelegatedRotation}
use Rattle.event.specs.declared.Head.{Head}
use Rattle.event.specs.declared.Body.{Body}
use Rattle.event.specs.declared.Event.{Event}
use Rattle.state.specs.declared.KeyState.{KeyState}
use Rattle.state.specs.State.{no_threshold}
use Rattle.format.specs.Parse.{Parse, got, bad, bind, ◌>>=◌, byte_at, num_at, classed, ended}
use Rattle.format.specs.Fields.{sn_at, item_at, items_at, config_at, flag_at, threshold_at, sigers_at}

-- ---- The groups of fields that records share
-- "prefix, sn, said", and "prior" behind them
unfoldable pub first_head_at : List ℕ → ℕ → Parse Head
first_head_at s = do
  prefix ← item_at Prefix s
  sn ← sn_at s
  said ← item_at Said s
  got (record { prefix = prefix; sn = sn; said = said; prior = zero_item })

unfoldable pub later_head_at : List ℕ → ℕ → Parse Head
later_head_at s = do
  h ← first_head_at s
  prior ← item_at Said s
  got (record { prefix = h.prefix; sn = h.sn; said = h.said; prior = prior })

-- "keys, threshold", "next, next threshold"
unfoldable pub authority_at : List ℕ → ℕ → Parse Authority
authority_at s = do
  keys ← items_at Key s
  threshold ← threshold_at s
  got (record { keys = keys; threshold = threshold })

unfoldable pub commitment_at : List ℕ → ℕ → Parse Commitment
commitment_at s = do
  next ← items_at Said s
  threshold ← threshold_at s
  got (record { next = next; threshold = threshold })

-- "anchor count u32, signatures, receipts", and nothing behind them
unfoldable pub tail_at : Ilk → Head → Body → List ℕ → ℕ → Parse Event
tail_at ilk h b s = do
  anchors ← num_at 4 s
  sigs ← sigers_at s
  receipts ← sigers_at s
  ended s (record { ilk = ilk; head = h; body = b; anchors = anchors; sigs = sigs; receipts = receipts })

-- what an interaction and the delegated ones do not have
abbrev pub no_head : Head
no_head = record { prefix = zero_item; sn = small 0; said = zero_item; prior = zero_item }

abbrev pub no_body : Body
no_body =
    record {
      authority = record { keys = packed []; threshold = no_threshold };
      commitment = record { next = packed []; threshold = no_threshold };
      additions = packed [];
      removals = packed [];
      toad = 0;
      config = packed_traits [];
    }

-- ---- "IC: prefix, sn, said, keys, threshold, next, next threshold, witnesses, toad u32, config, anchor count u32, signatures, receipts."
unfoldable pub inception_body_at : List ℕ → ℕ → Parse Body
inception_body_at s = do
  authority ← authority_at s
  commitment ← commitment_at s
  witnesses ← items_at Key s
  toad ← num_at 4 s
  config ← config_at s
  got (
      record {
        authority = authority;
        commitment = commitment;
        additions = witnesses;
        removals = packed [];
        toad = toad;
        config = config;
      })

unfoldable pub inception_at : List ℕ → ℕ → Parse Event
inception_at s = do
  h ← first_head_at s
  b ← inception_body_at s
  tail_at Inception h b s

-- ---- "RO: prefix, sn, said, prior, keys, threshold, next, next threshold, additions, removals, toad, anchor count, signatures, receipts."
unfoldable pub rotation_body_at : List ℕ → ℕ → Parse Body
rotation_body_at s = do
  authority ← authority_at s
  commitment ← commitment_at s
  additions ← items_at Key s
  removals ← items_at Key s
  toad ← num_at 4 s
  got (
      record {
        authority = authority;
        commitment = commitment;
        additions = additions;
        removals = removals;
        toad = toad;
        config = packed_traits [];
      })

unfoldable pub rotation_at : List ℕ → ℕ → Parse Event
rotation_at s = do
  h ← later_head_at s
  b ← rotation_body_at s
  tail_at Rotation h b s

-- ---- "IX: prefix, sn, said, prior, anchor count, signatures, receipts."
unfoldable pub interaction_at : List ℕ → ℕ → Parse Event
interaction_at s = do
  h ← later_head_at s
  tail_at Interaction h no_body s

-- ---- "DI and DR delegated (body not read)"
abbrev pub delegated : Ilk → Event
delegated ilk =
    record { ilk = ilk; head = no_head; body = no_body; anchors = 0; sigs = packed_sigers []; receipts = packed_sigers [] }

-- ---- "KS: prefix, sn, latest said, latest type (0 IC, 1 RO, 2 IX), keys, threshold, next, next threshold, witnesses, toad,
-- config, transferable 0 or 1, last establishment sn and said. Only shape is checked."
unfoldable pub latest_at : List ℕ → ℕ → Parse ℕ
latest_at s = do
  latest ← byte_at s
  classed (leb latest 2) latest

unfoldable pub snapshot_at : List ℕ → ℕ → Parse KeyState
snapshot_at s = do
  h ← first_head_at s
  latest ← latest_at s
  authority ← authority_at s
  commitment ← commitment_at s
  witnesses ← items_at Key s
  toad ← num_at 4 s
  config ← config_at s
  transferable ← flag_at s
  sn ← sn_at s
  said ← item_at Said s
  ended s (
      record {
        prefix = h.prefix;
        sn = h.sn;
        said = h.said;
        latest = latest;
        authority = authority;
        commitment = commitment;
        witnessing = record { witnesses = witnesses; toad = toad };
        config = config;
        transferable = transferable;
        last = record { sn = sn; said = said };
      })

-- ---- A record: "a two-byte ASCII mark, a u16 body length, the body"
-- an event, a snapshot, or the refusal (2, 3 or 4)
pub data Content : Type 0 where
  event : Event → Content
  snapshot : KeyState → Content
  refusal : ℕ → Content

abbrev pub as_event : Parse Event → Content
as_event (got e n) = event e
as_event (bad r) = refusal r

abbrev pub as_snapshot : Parse KeyState → Content
as_snapshot (got s n) = snapshot s
as_snapshot (bad r) = refusal r

-- by the mark, as a number of its two bytes: IC is 0x4943, RO 0x524F, IX 0x4958, DI 0x4449, DR 0x4452, KS 0x4B53
unfoldable pub content_of : ℕ → List ℕ → Content
content_of mark body =
    pick (eqb mark 0x4943) (as_event (inception_at body 0))
    (pick (eqb mark 0x524F) (as_event (rotation_at body 0))
    (pick (eqb mark 0x4958) (as_event (interaction_at body 0))
    (pick (eqb mark 0x4449) (event (delegated DelegatedInception))
    (pick (eqb mark 0x4452) (event (delegated DelegatedRotation))
    (pick (eqb mark 0x4B53) (as_snapshot (snapshot_at body 0)) (refusal 2))))))

-- what a byte string holds first, and where the next record starts; or 1: "Fewer than 4 bytes left .. or a body past the end"
pub data First : Type 0 where
  record_of : ℕ → Content → ℕ → First
  truncated : First

abbrev pub mark_of : List ℕ → ℕ
mark_of s = get_or s 0 0 * 256 + get_or s 1 0

abbrev pub body_length : List ℕ → ℕ
body_length s = get_or s 2 0 * 256 + get_or s 3 0

unfoldable pub first_of : List ℕ → First
first_of s =
    pick (both (leb 4 (length s)) (leb (4 + body_length s) (length s)))
    (record_of (mark_of s) (content_of (mark_of s) (take (body_length s) (drop 4 s))) (4 + body_length s))
    truncated

-- "Otherwise the length leads to the next record, refused or not": where it starts; where none can be had, the end
abbrev pub next_in : List ℕ → First → ℕ
next_in s (record_of mark c next) = next
next_in s truncated = length s
