-- What an accepted event makes of a key state: "Acceptance sets fields as `seed`, `apply_rotation` and `interact_mut` do."
use Rattle.std.specs.Prelude.{ℕ, [], Bool, true, false, not, eqb, replicate}
use Rattle.lists.specs.Lists.{both}
use Rattle.number.specs.declared.Number.{Number}
use Rattle.number.specs.Number.{small}
use Rattle.item.specs.Item.{is_transferable, transferable_of, zero_item}
use Rattle.items.specs.declared.Items.{Items}
use Rattle.items.specs.Items.{packed}
use Rattle.config.specs.Config.{packed_traits}
use Rattle.threshold.specs.declared.Threshold.{Threshold}
use Rattle.event.specs.declared.Head.{Head}
use Rattle.event.specs.declared.Body.{Body}
use Rattle.state.specs.declared.KeyState.{KeyState}
use Rattle.state.specs.declared.Holder.{Holder}

-- no next digests: the keys cannot be rotated any more
abbrev pub abandons : Body → Bool
abandons b = eqb b.commitment.next.count 0

-- ---- inception: "transferable iff the prefix code is transferable and the next-key commitment is non-empty"
abbrev pub can_move : Head → Body → Bool
can_move h b = both (is_transferable h.prefix) (not (abandons b))

-- the same by the prefix's code and the number of next digests
abbrev pub moves_with : ℕ → ℕ → Bool
moves_with code next = both (transferable_of code) (not (eqb next 0))

-- the state that an inception makes, at a sequence number
abbrev pub begun : Number → Head → Body → KeyState
begun sn h b =
    record {
      prefix = h.prefix;
      sn = sn;
      said = h.said;
      latest = 0;
      authority = b.authority;
      commitment = b.commitment;
      witnessing = record { witnesses = b.additions; toad = b.toad };
      config = b.config;
      transferable = can_move h b;
      last = record { sn = sn; said = h.said };
    }

-- `seed` writes 0, where the unchecked `genesis` takes "the event's number as it is"
abbrev pub seeded : Head → Body → KeyState
seeded h b = begun (small 0) h b

abbrev pub genesis : Head → Body → KeyState
genesis h b = begun h.sn h b

-- ---- rotation: "A rotation never sets the flag, it only clears it where next is empty"
abbrev pub rotated : KeyState → Head → Body → Items → KeyState
rotated s h b witnesses =
    record {
      prefix = s.prefix;
      sn = h.sn;
      said = h.said;
      latest = 1;
      authority = b.authority;
      commitment = b.commitment;
      witnessing = record { witnesses = witnesses; toad = b.toad };
      config = s.config;
      transferable = both (not (abandons b)) s.transferable;
      last = record { sn = h.sn; said = h.said };
    }

-- ---- interaction
abbrev pub stepped : KeyState → Head → KeyState
stepped s h =
    record {
      prefix = s.prefix;
      sn = h.sn;
      said = h.said;
      latest = 2;
      authority = s.authority;
      commitment = s.commitment;
      witnessing = s.witnessing;
      config = s.config;
      transferable = s.transferable;
      last = s.last;
    }

-- the flags as questions
unfoldable pub may_move : KeyState → Bool
may_move s = s.transferable

unfoldable pub is_held : Holder → Bool
is_held h = h.held

-- nothing in every field
abbrev pub no_threshold : Threshold
no_threshold = record { tag = 0; simple = 0; clauses = 0; sizes = replicate 16 0; weights = replicate 16 (record { num = 0; den = 0 }) }

abbrev pub no_state : KeyState
no_state =
    record {
      prefix = zero_item;
      sn = small 0;
      said = zero_item;
      latest = 0;
      authority = record { keys = packed []; threshold = no_threshold };
      commitment = record { next = packed []; threshold = no_threshold };
      witnessing = record { witnesses = packed []; toad = 0 };
      config = packed_traits [];
      transferable = false;
      last = record { sn = small 0; said = zero_item };
    }

abbrev pub holding : KeyState → Holder
holding s = record { held = true; state = s }
