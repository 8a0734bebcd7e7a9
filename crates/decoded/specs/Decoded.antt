-- What can be said of every content: "Numbers 1 to 4 come before all others", so what is read has no fault of shape.
use Rattle.std.specs.Prelude.{◌≤◌, ◌≡◌}
use Rattle.shape.specs.Event.{event_shape}
use Rattle.shape.specs.State.{state_shape}
use Rattle.layout.specs.Records.{Content, event, snapshot, refusal}

-- an event and a state are well shaped, a refusal is 2, 3 or 4
abbrev pub Shaped : Content → Type 0
Shaped (event e) = event_shape e ≡ 0
Shaped (snapshot s) = state_shape s ≡ 0
Shaped (refusal n) = (2 ≤ n) × (n ≤ 4)
