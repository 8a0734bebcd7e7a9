use native.Mathlib.Omega.{arith}
use Rattle.std.proofs.lemmas.Grind.{common_steps}
use Rattle.cursor.proofs.Laws.{byte_got, byte-short}
use Rattle.cursor.proofs.read_u8.Goals as goal

pub returns-in_err-b : goal.returns-in_err-b
returns-in_err-b c = rw (c.from_residual.ensures, byte-short c.args.s.now c.args.at (omega (arith, c.in_err-b.ensures.lookup)))

pub returns : goal.returns
returns c =
    let p = c.in_ok-b.ensures.lookup in
    rw (byte_got c.args.s.now c.args.at (omega (arith, p))) (grind (arith, common_steps, p))
