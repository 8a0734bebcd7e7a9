use Rattle.std.proofs.Common.{arith, refl}
use Rattle.keyreport.proofs.Runs.{bytes_of, stands_there, begins_there, run_begins, run_goes_on, run_ends}
use Rattle.keyreport.proofs.run.Goals as goal

pub loop-init : goal.loop-init
loop-init g c = record {
  room = c.requires;
  bytes = bytes_of c.args.state.now c.type_inv.state;
  progress = λ r. run_begins _ _ c.args.window.now c.args.state.now c.args.used.now c.begin-t.result c.begin-t.ensures r.0;
}

pub loop-preserved : goal.loop-preserved
loop-preserved g c =
    let l = c.loop in
    let found = stands_there _ _ _ c.in-Ok.is c.in-Record.is _ _ _ c.read_next.ensures.found in
    let bytes = begins_there _ _ _ c.in-Ok.is c.in-Record.is _ _ _ c.read_next.ensures.bytes in
    record {
      room = c.in_ok-at.ensures.room;
      bytes = bytes_of c.offer-answer.new.state c.type_inv.state;
      progress = λ r.
          run_goes_on _ _ _ _ _ _ l.t l.state l.used (l.invariant.progress r) l.window c.read_next.new.window l.span c.in-Record.place _ found (omega (arith, r.2, c.read_next.auto.window, l.auto.window)) bytes l.invariant.bytes c.offer-answer.ensures.body_bytes (omega (arith, r.1, l.auto.state)) c.offer-answer.result c.offer-answer.new.state c.offer-answer.new.used c.mark_at-mark.result l.out c.tell-last.new.out l.at c.in_ok-at.at c.tell-last.result c.mark_at-mark.ensures c.offer-answer.ensures.value c.offer-answer.ensures.state_after c.offer-answer.ensures.used_after refl l.invariant.room c.tell-last.ensures.value c.tell-last.ensures.out_after c.in_ok-at.ensures.bytes;
    }

pub returns-in_default : goal.returns-in_default
returns-in_default g c =
    let l = c.loop in
    λ r. run_ends _ _ _ _ _ _ l.t l.state l.used (l.invariant.progress r) c.finish.result c.read_next.new.window _ c.read_next.result _ c.in-Ok.is c.in_default.not-Record l.invariant.bytes (omega (arith, r.1, l.auto.state)) c.read_next.ensures.bytes c.finish.ensures
