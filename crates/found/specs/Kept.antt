-- A state in a buffer: a snapshot's bytes, or nothing. What a buffer's used bytes hold, for every byte string.
use Rattle.std.specs.Prelude.{ℕ, List, Bool, eqb, leb, length, take}
use Rattle.lists.specs.Lists.{pick}
use Rattle.state.specs.declared.Holder.{Holder}
use Rattle.state.specs.State.{holding}
use Rattle.empty.specs.Empty.{nothing}
use Rattle.layout.specs.Records.{Content, event, snapshot, refusal, First, record_of, truncated, first_of}

-- what bytes hold: the number is 0 where they are a state or nothing, else 1 to 4 with nothing held
pub record Kept : Type 0 where
  pub number : ℕ
  pub holder : Holder

-- no state: because there are no bytes (0), or because the bytes hold none (1 to 4)
abbrev pub none : ℕ → Kept
none n = record { number = n; holder = nothing }

abbrev pub one : Holder → Kept
one h = record { number = 0; holder = h }

-- "3 for a short body, a byte outside its class or bytes left over", behind the record too. No event has the mark KS.
abbrev pub alone : Bool → Content → Kept
alone whole (snapshot s) = pick whole (one (holding s)) (none 3)
alone whole (refusal n) = none n
alone whole (event e) = none 2

-- "1 comes before 2"; a mark other than KS (0x4B53) is unknown here
abbrev pub snapshot_first : ℕ → First → Kept
snapshot_first end (record_of mark c next) = pick (eqb mark 0x4B53) (alone (eqb next end) c) (none 2)
snapshot_first end truncated = none 1

unfoldable pub state_in : List ℕ → Kept
state_in s = pick (eqb (length s) 0) (none 0) (snapshot_first (length s) (first_of s))

-- a buffer with a number of used bytes; where the number is above the buffer's length, the bytes are cut short: 1
unfoldable pub kept_in : List ℕ → ℕ → Kept
kept_in buf used = pick (leb used (length buf)) (state_in (take used buf)) (none 1)
