-- "The numbers": which of them a record, an event, a snapshot and a call on a state in a buffer can get.
use Rattle.std.specs.Prelude.{◌≤◌, ◌≡◌, ◌⊎◌}
use Rattle.answer.specs.declared.Answer.{Answer}

-- "0 accepted", "1, 2, 3, 4", .. "38": what a record or an event can get; "39, 40 .. (direct calls only)", and 41 is saving's
abbrev pub InTable : Answer → Type 0
InTable x = x.number ≤ 38

-- "41 NoRoom (added): snapshot buffer too short": saving, and a call that saves what it accepts
abbrev pub InTableOfSaving : Answer → Type 0
InTableOfSaving x = InTable x ⊎ (x.number ≡ 41)

-- "Keep the number reserved" (request 14): 29 stays in the table, and no event, record or call on a state gets it
abbrev pub Never29 : Answer → Type 0
Never29 x = x.number ≡ 29 → ⊥
