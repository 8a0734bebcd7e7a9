-- What was read back, as what bytes hold.
use Rattle.std.specs.Prelude.{Result, Ok, Err}
use Rattle.answer.specs.declared.Refusal.{Refusal}
use Rattle.answer.specs.Refusal.{answer_of}
use Rattle.state.specs.declared.Holder.{Holder}
use Rattle.found.specs.Kept.{Kept, none, one}

abbrev pub restored_is : Result Holder Refusal → Kept
restored_is (Ok h) = one h
restored_is (Err r) = none (answer_of r).number
