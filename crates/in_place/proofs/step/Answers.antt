use native.Mathlib.Omega.{arith}
use mathlib.Core.Path.{◌∙◌, ap}
use mathlib.Core.List.{List}
use Prim.Native.Nat.{ℕ, ◌≤◌}
use lib.ListN.{length}
use Rattle.answer.specs.Answer.{accepted}
use Rattle.found.specs.Found.{Small}
use Rattle.in_place.specs.Steps.{left}
use Rattle.in_place.proofs.Parts.{interaction_room}
use Rattle.in_place.proofs.Written.{stepped_settled}
use borrow.Author.Rules.{rules}
use Rattle.in_place.proofs.step.Goals as goal

pub slice_bounds-step-end : goal.slice_bounds-step-end
slice_bounds-step-end c = let a = c.args in
    let small : Small a.s.now = λ i. omega (arith, c.shared_slice_known-1.given i) in
    let upper : 82 ≤ length a.s.now = interaction_room a.s.now small a.m c.requires.got in
    search rules

pub returns : goal.returns
returns c = let a = c.args in
    let small : Small a.s.now = λ i. omega (arith, c.shared_slice_known-1.given i) in
    ap (λ (b : List ℕ). left accepted b a.used) c.step.ensures ∙ stepped_settled a.state.now a.used a.sm c.requires.keeps a.s.now small a.m c.requires.got
