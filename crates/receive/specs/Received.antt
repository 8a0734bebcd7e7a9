-- The one-record call: what the first record of a byte string gets, for every holder and every byte string.
use Rattle.std.specs.Prelude.{ℕ, List, eqb, length}
use Rattle.lists.specs.Lists.{pick}
use Rattle.answer.specs.Answer.{refused, accepted}
use Rattle.state.specs.declared.Holder.{Holder}
use Rattle.state.specs.State.{is_held, holding}
use Rattle.shape.specs.State.{holder_shape}
use Rattle.ingest.specs.declared.Offered.{Offered}
use Rattle.ingest.specs.Judgement.{settled, turned_away, offered}
use Rattle.layout.specs.Records.{Content, event, snapshot, refusal, content_of, First, record_of, truncated, first_of}

-- what the first record gets, its mark (0 where there is none), and where the next one starts
pub record Received : Type 0 where
  pub offered : Offered
  pub mark : ℕ
  pub next : ℕ

-- an event gets demand 2's answer; "Empty holder: KS is taken", "Held state: KS 5"; a body that cannot be read gets 2, 3 or 4
abbrev pub taken : Holder → Content → Offered
taken h (event e) = offered h e
taken h (snapshot s) = settled h (pick (is_held h) (refused 5 0 0) accepted) (holding s)
taken h (refusal n) = turned_away h n

-- "state first, then record": a bad state comes before anything of the record, a 1 too
abbrev pub unless_bad : Holder → Offered → Offered
unless_bad h x = pick (eqb (holder_shape h) 0) x (turned_away h (holder_shape h))

-- a body by its mark
unfoldable pub body_taken : Holder → ℕ → List ℕ → Offered
body_taken h mark body = unless_bad h (taken h (content_of mark body))

-- "Fewer than 4 bytes left .., or a body past the end, is 1 and ends the input"; "Otherwise the length leads to the next record,
-- refused or not." Where no record can be had its mark is 0.
abbrev pub first_taken : Holder → ℕ → First → Received
first_taken h end (record_of mark c next) = record { offered = unless_bad h (taken h c); mark = mark; next = next }
first_taken h end truncated = record { offered = unless_bad h (turned_away h 1); mark = 0; next = end }

unfoldable pub received : Holder → List ℕ → Received
received h s = first_taken h (length s) (first_of s)
