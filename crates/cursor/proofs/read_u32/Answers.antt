use mathlib.Core.Path.{◌∙◌}
use native.Mathlib.Omega.{arith}
use Rattle.cursor.proofs.Laws.{be_4, number_had, number_missing}
use Rattle.cursor.proofs.read_u32.Goals as goal

pub returns-in_err-bytes : goal.returns-in_err-bytes
returns-in_err-bytes c = rw c.from_residual.ensures (number_missing 4 c.args.s.now c.args.at c.in_err-bytes.ensures)

pub returns : goal.returns
returns c = number_had 4 c.args.s.now c.args.at c.in_ok-bytes.bytes _ _ c.in_ok-bytes.ensures (c.from_be_bytes.ensures ∙ be_4 c.in_ok-bytes.bytes (omega arith))
