-- Records by their places, in layout's groups and order, and what stands at the marks. proofs/Laws has that the two together
-- are layout's records by value.
use Rattle.std.specs.Prelude.{ℕ, List}
use Rattle.item.specs.declared.Kind.TheVariants.{Said}
use Rattle.verification.specs.Verification.{packed_sigers}
use Rattle.event.specs.declared.Ilk.{Ilk}
use Rattle.event.specs.declared.Event.{Event}
use Rattle.state.specs.declared.KeyState.{KeyState}
use Rattle.format.specs.Parse.{Parse, got, ◌>>=◌, num_at, ended}
use Rattle.format.specs.Fields.{sn_at, flag_at}
use Rattle.layout.specs.Records.{latest_at}
use Rattle.field.specs.Field.{place_at, item_of, items_of, config_of}
use Rattle.wire.specs.Wire.{sigers_span, sigers_of}
use Rattle.parts.specs.Parts.{first_head_places, later_head_places, inception_body_places, rotation_body_places, no_body_marks, head_of, authority_of, commitment_of, body_of}
use Rattle.record.specs.declared.TailMarks.{TailMarks}
use Rattle.record.specs.declared.EventMarks.{EventMarks}
use Rattle.record.specs.declared.LastMarks.{LastMarks}
use Rattle.record.specs.declared.StateMarks.{StateMarks}

-- ---- The places
unfoldable pub tail_places : List ℕ → ℕ → Parse TailMarks
tail_places s = do
  anchors ← num_at 4 s
  sigs ← sigers_span s
  receipts ← sigers_span s
  ended s (record { anchors = anchors; sigs = sigs; receipts = receipts })

unfoldable pub inception_places : List ℕ → ℕ → Parse EventMarks
inception_places s = do
  h ← first_head_places s
  b ← inception_body_places s
  t ← tail_places s
  got (record { head = h; body = b; tail = t })

unfoldable pub rotation_places : List ℕ → ℕ → Parse EventMarks
rotation_places s = do
  h ← later_head_places s
  b ← rotation_body_places s
  t ← tail_places s
  got (record { head = h; body = b; tail = t })

unfoldable pub interaction_places : List ℕ → ℕ → Parse EventMarks
interaction_places s = do
  h ← later_head_places s
  t ← tail_places s
  got (record { head = h; body = no_body_marks; tail = t })

unfoldable pub last_places : List ℕ → ℕ → Parse LastMarks
last_places s = do
  transferable ← flag_at s
  sn ← sn_at s
  said ← place_at Said s
  ended s (record { transferable = transferable; sn = sn; said = said })

unfoldable pub snapshot_places : List ℕ → ℕ → Parse StateMarks
snapshot_places s = do
  h ← first_head_places s
  latest ← latest_at s
  b ← inception_body_places s
  last ← last_places s
  got (record { head = h; latest = latest; body = b; last = last })

-- ---- What stands at the marks
abbrev pub state_of : List ℕ → StateMarks → KeyState
state_of s m =
    record {
      prefix = item_of s m.head.prefix;
      sn = m.head.sn;
      said = item_of s m.head.said;
      latest = m.latest;
      authority = authority_of s m.body.signers.authority;
      commitment = commitment_of s m.body.signers.commitment;
      witnessing =
          record { witnesses = items_of s m.body.additions.count m.body.additions.first; toad = m.body.toad };
      config = config_of s m.body.config.count m.body.config.first;
      transferable = m.last.transferable;
      last = record { sn = m.last.sn; said = item_of s m.last.said };
    }

-- an event whose signatures stand where the marks say
abbrev pub event_of : Ilk → List ℕ → EventMarks → Event
event_of ilk s m =
    record {
      ilk = ilk;
      head = head_of s m.head;
      body = body_of s m.body;
      anchors = m.tail.anchors;
      sigs = packed_sigers (sigers_of s m.tail.sigs.count m.tail.sigs.first);
      receipts = packed_sigers (sigers_of s m.tail.receipts.count m.tail.receipts.first);
    }
