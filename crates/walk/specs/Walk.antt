-- A byte string record after record, each offered to what the ones before it left in a lent buffer.
use Rattle.std.specs.Prelude.{ℕ, ◌+◌, List, Bool, length}
use Rattle.lists.specs.Lists.{pick}
use Rattle.runs.specs.Runs.{end_of, kept_of}
use Rattle.answer.specs.declared.Answer.{Answer}
use Rattle.answer.specs.Answer.{passes}
use Rattle.layout.specs.Records.{First}
use Rattle.record_log.specs.Log.{given, records_of}
use Rattle.found.specs.Kept.{kept_in}
use Rattle.in_place.specs.Calls.{Left, on_state}
use Rattle.walk.specs.declared.Walked.{Walked}

-- a buffer, and how many of its bytes are used
pub record Lent : Type 0 where
  pub bytes : List ℕ
  pub used : ℕ

abbrev pub lent : List ℕ → ℕ → Lent
lent buf used = record { bytes = buf; used = used }

-- a record offered to it: what `offered_in` leaves of any byte string that has this record first
abbrev pub left_by : Lent → First → Left
left_by l f = on_state l.bytes l.used (λ h. given h f) (kept_in l.bytes l.used)

abbrev pub after : Lent → First → Lent
after l f = lent (left_by l f).bytes (left_by l f).used

abbrev pub takes : Lent → First → Bool
takes l f = passes (left_by l f).answer

-- what the buffer is after all records of a byte string; how many were accepted, and how many there were
abbrev pub end_in : Lent → List ℕ → Lent
end_in l s = end_of after l (records_of s)

abbrev pub walked_in : Lent → List ℕ → Walked
walked_in l s = record { accepted = length (kept_of after takes l (records_of s)); offered = length (records_of s) }

-- the counts with one record more
abbrev pub counted_in : Walked → Answer → Walked
counted_in w x = record { accepted = w.accepted + pick (passes x) 1 0; offered = w.offered + 1 }
