use Rattle.std.proofs.Common.{sym, ◌∙◌}
use Rattle.std.proofs.lemmas.Result.{err_from_is_err_and, IfOk-from_err}
use Rattle.links.specs.Quotations.{CellLimits}
use Rattle.links.proofs.Placing.{by_dates, by_basis, by_column, found_cell, found_limits}
use Rattle.links.proofs.price.cell_of.Goals as goal

pub returns-in_err-check_dates : goal.returns-in_err-check_dates
returns-in_err-check_dates g c =
    let out = c.from_residual in
    let p = err_from_is_err_and out.result out.ensures.1 in
    let stops = sym c.check_dates.ensures.answer ∙ c.in_err-check_dates.was in
    record {
      answer = rw (p.1, p.2) (by_dates (g.T.Tariff.meaning c.args.sheet.now) c.args.order.now _ stops);
      limits = IfOk-from_err out.result CellLimits out.ensures.0;
    }

pub returns-in_err-basis : goal.returns-in_err-basis
returns-in_err-basis g c =
    let out = c.from_residual-in_err-basis in
    let p = err_from_is_err_and out.result out.ensures.1 in
    let real = sym c.check_dates.ensures.answer ∙ c.in_ok-check_dates.was in
    let stops = sym c.basis_of.ensures.answer ∙ c.in_err-basis.was in
    record {
      answer = rw (p.1, p.2) (by_basis (g.T.Tariff.meaning c.args.sheet.now) c.args.order.now _ real _ stops);
      limits = IfOk-from_err out.result CellLimits out.ensures.0;
    }

pub returns-in_err-column-clause-answer : goal.returns-in_err-column-clause-answer
returns-in_err-column-clause-answer g c =
    let out = c.from_residual-in_err-column in
    let p = err_from_is_err_and out.result out.ensures.1 in
    let real = sym c.check_dates.ensures.answer ∙ c.in_ok-check_dates.was in
    let based = sym c.basis_of.ensures.answer ∙ c.in_ok-basis.was in
    let in_row = sym c.row_of.ensures.answer ∙ c.in_ok-row.was in
    let stops = sym c.column_of.ensures.answer ∙ c.in_err-column.was in
    rw (p.1, p.2) (by_column (g.T.Tariff.meaning c.args.sheet.now) c.args.order.now _ real _ based _ in_row _ stops)

pub returns : goal.returns
returns g c =
    let m = g.T.Tariff.meaning c.args.sheet.now in
    let o = c.args.order.now in
    let real = sym c.check_dates.ensures.answer ∙ c.in_ok-check_dates.was in
    let based = sym c.basis_of.ensures.answer ∙ c.in_ok-basis.was in
    let in_row = sym c.row_of.ensures.answer ∙ c.in_ok-row.was in
    let in_column = sym c.column_of.ensures.answer ∙ c.in_ok-column.was in
    record {
      answer = found_cell m o _ real _ based _ in_row _ in_column;
      limits = found_limits m o _ real _ based _ in_row _ in_column (g.T.Tariff.lawful c.args.sheet.now);
    }
