use Rattle.std.proofs.Common.{Ok, sym, ap, ◌∙◌}
use Rattle.std.proofs.lemmas.Result.{err_from_is_err_and}
use Rattle.refusal.proofs.First.{still_refused, carried}
use Rattle.links.specs.Quotations.{checks, cell_of, link_at}
use Rattle.links.proofs.price.link_price.Goals as goal

pub returns-in_err-cell : goal.returns-in_err-cell
returns-in_err-cell g c =
    let m = g.T.Tariff.meaning c.args.sheet.now in
    let o = c.args.order.now in
    let p = err_from_is_err_and c.from_residual.result c.from_residual.ensures.1 in
    record { answer = rw (p.1, p.2) (still_refused (checks m o) (cell_of m o) (link_at m (cell_of m o)) _ (sym c.cell_of.ensures.answer ∙ c.in_err-cell.was)) }

pub returns : goal.returns
returns g c =
    let m = g.T.Tariff.meaning c.args.sheet.now in
    let o = c.args.order.now in
    let is = carried (checks m o) (cell_of m o) c.in_ok-cell.cell (link_at m) (sym c.cell_of.ensures.answer ∙ c.in_ok-cell.was) in
    record { answer = ap Ok c.link_at.ensures.value ∙ is }
