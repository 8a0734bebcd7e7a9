use mathlib.Core.Path.{sym, ◌∙◌, ap}
use Rattle.item.specs.Item.{fits_of}
use Rattle.field.proofs.Laws.{place_short, place_got, place_bad, first_of}
use Rattle.field.proofs.scan_item.Goals as goal

pub returns-in_err-item : goal.returns-in_err-item
returns-in_err-item c = rw (c.from_residual.ensures, place_short c.args.kind c.args.s.now c.args.at c.in_err-item.ensures)

pub returns-then-fits : goal.returns-then-fits
returns-then-fits c =
    let a = c.args in
    let p = c.in_ok-item.ensures in
    sym (place_got a.kind a.s.now a.at p.0 (ap (fits_of a.kind) (sym (first_of 32 a.s.now a.at _ p.1)) ∙ sym c.fits.ensures ∙ c.if-fits.true))

pub returns-else-fits : goal.returns-else-fits
returns-else-fits c =
    let a = c.args in
    let p = c.in_ok-item.ensures in
    sym (place_bad a.kind a.s.now a.at p.0 (ap (fits_of a.kind) (sym (first_of 32 a.s.now a.at _ p.1)) ∙ sym c.fits.ensures ∙ c.if-fits.false))
