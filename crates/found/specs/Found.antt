-- What bytes hold, by places: each answer of the code as layout's content, layout's first record, or the state kept; and what
-- else its marks and places are sure of.
use Rattle.std.specs.Prelude.{ℕ, ◌+◌, ◌-◌, ◌≤◌, ◌<◌, ◌≡◌, List, Option, Some, None, Result, Ok, Err, length, take, drop, get_or}
use Rattle.answer.specs.declared.Refusal.{Refusal}
use Rattle.answer.specs.Refusal.{answer_of}
use Rattle.event.specs.declared.Ilk.TheVariants.{Inception, Rotation, Interaction, DelegatedInception, DelegatedRotation}
use Rattle.state.specs.State.{holding}
use Rattle.format.specs.Parse.{Parse, got}
use Rattle.layout.specs.Records as L
use Rattle.layout.specs.Records.{event, snapshot, refusal, delegated, content_of, record_of, truncated, mark_of, body_length}
use Rattle.record.specs.declared.StateMarks.{StateMarks}
use Rattle.record.specs.Marks.{inception_places, rotation_places, interaction_places, snapshot_places, event_of, state_of}
use Rattle.found.specs.declared.Content as C
use Rattle.found.specs.Kept.{Kept, none, one}

-- a reading that succeeded with a
pub record Got {A : Type 0} (p : Parse A) (a : A) : Type 0 where
  pub next : ℕ
  pub is : p ≡ got a next

-- ---- A body by its mark
-- what was found, as layout's content
abbrev pub content_is : List ℕ → Result C.Content Refusal → L.Content
content_is s (Ok (C.TheVariants.Inception m)) = event (event_of Inception s m)
content_is s (Ok (C.TheVariants.Rotation m)) = event (event_of Rotation s m)
content_is s (Ok (C.TheVariants.Interaction m)) = event (event_of Interaction s m)
content_is s (Ok C.TheVariants.DelegatedInception) = event (delegated DelegatedInception)
content_is s (Ok C.TheVariants.DelegatedRotation) = event (delegated DelegatedRotation)
content_is s (Ok (C.TheVariants.Snapshot m)) = snapshot (state_of s m)
content_is s (Err r) = refusal (answer_of r).number

-- and its marks are those of the scan
abbrev pub Placed : List ℕ → Result C.Content Refusal → Type 0
Placed s (Ok (C.TheVariants.Inception m)) = Got (inception_places s 0) m
Placed s (Ok (C.TheVariants.Rotation m)) = Got (rotation_places s 0) m
Placed s (Ok (C.TheVariants.Interaction m)) = Got (interaction_places s 0) m
Placed s (Ok C.TheVariants.DelegatedInception) = Unit {0}
Placed s (Ok C.TheVariants.DelegatedRotation) = Unit {0}
Placed s (Ok (C.TheVariants.Snapshot m)) = Got (snapshot_places s 0) m
Placed s (Err r) = Unit {0}

-- ---- The first record: its mark, and where the next one starts
abbrev pub first_is : List ℕ → Option (ℕ × ℕ) → L.First
first_is s (Some p) = record_of p.0 (content_of p.0 (take (p.1 - 4) (drop 4 s))) p.1
first_is s None = truncated

-- its numbers are bytes
abbrev pub Small : List ℕ → Type 0
Small s = (i : ℕ) → get_or s i 0 < 256

abbrev pub Within : List ℕ → Option (ℕ × ℕ) → Type 0
Within s (Some p) = (4 ≤ p.1) × ((p.1 ≤ length s) × Small s)
Within s None = Unit {0}

-- ---- The state in bytes
abbrev pub kept_is : List ℕ → Result (Option StateMarks) Refusal → Kept
kept_is s (Ok (Some m)) = one (holding (state_of (drop 4 s) m))
kept_is s (Ok None) = none 0
kept_is s (Err r) = none (answer_of r).number

-- the bytes are one snapshot's record (KS is 0x4B53), nothing behind it, and the marks are those of its scan
pub record Whole (s : List ℕ) (m : StateMarks) : Type 0 where
  pub four : 4 ≤ length s
  pub marked : mark_of s ≡ 0x4B53
  pub sized : 4 + body_length s ≡ length s
  pub small : Small s
  pub scanned : Got (snapshot_places (drop 4 s) 0) m

abbrev pub Framed : List ℕ → Result (Option StateMarks) Refusal → Type 0
Framed s (Ok (Some m)) = Whole s m
Framed s (Ok None) = length s ≡ 0
Framed s (Err r) = (answer_of r).number ≡ 0 → ⊥

-- a buffer of n bytes has the used ones
abbrev pub Room : ℕ → ℕ → Result (Option StateMarks) Refusal → Type 0
Room used n (Ok found) = used ≤ n
Room used n (Err r) = Unit {0}
