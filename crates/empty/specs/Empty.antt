-- "the holder (empty or one state)": the empty one. Its state is not looked at; it is all zeros.
use Rattle.std.specs.Prelude.{false}
use Rattle.state.specs.declared.Holder.{Holder}
use Rattle.state.specs.State.{no_state}

abbrev pub nothing : Holder
nothing = record { held = false; state = no_state }
