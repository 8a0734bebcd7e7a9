use mathlib.Core.Path.{◌≡◌, ◌∙◌, ap}
use lib.Dec.{eqb}
use lib.ListN.{length, take}
use Rattle.std.proofs.Common.{rules}
use Rattle.std.proofs.lemmas.List.{take_min}
use Rattle.lists.specs.Lists.{any}
use Rattle.lists.proofs.Chains.{contains_is}
use Rattle.config.proofs.is_establishment_only.Goals as goal

pub returns : goal.returns
returns c =
    let a = c.args.c in
    let h : length a.traits ≡ 8 = search rules in
    let e : take c.min.result a.traits ≡ take a.count a.traits = rw (c.min.ensures, ← h) (take_min a.count a.traits) in
    c.contains.ensures.value ∙ contains_is 1 (take c.min.result a.traits) ∙ ap (any (eqb 1)) e
