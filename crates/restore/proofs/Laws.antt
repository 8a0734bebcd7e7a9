-- From the marks of a state's bytes to the state that they hold. Assumes nothing.
use mathlib.Core.Path.{◌≡◌, ◌∙◌, ap}
use mathlib.Core.List.{List}
use Prim.Native.Nat.{ℕ, ◌-◌}
use native.Mathlib.Omega.{arith}
use lib.ListN.{length, take, drop, length-drop}
use lib.Seq.{take_all}
use Rattle.state.specs.declared.KeyState.{KeyState}
use Rattle.state.specs.declared.Holder.{Holder}
use Rattle.state.specs.State.{holding}
use Rattle.record.specs.declared.StateMarks.{StateMarks}
use Rattle.record.specs.Marks.{state_of}
use Rattle.found.specs.Kept.{one, state_in}

-- the bytes behind a record's mark and length are its body
pub state_restored : (s : List ℕ) (h : Holder) (k : KeyState) (m : StateMarks) → h ≡ holding k → k ≡ state_of (take (length s - 4) (drop 4 s)) m
    → one (holding (state_of (drop 4 s) m)) ≡ state_in s → one h ≡ state_in s
state_restored s h k m eh ek is =
    let all : take (length s - 4) (drop 4 s) ≡ drop 4 s = take_all (length s - 4) (drop 4 s) (rw (length-drop 4 s) (omega arith)) in
    let body : k ≡ state_of (drop 4 s) m = rw all at ek in
    ap one (eh ∙ ap holding body) ∙ is
