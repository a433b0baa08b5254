use Rattle.std.proofs.Common.{arith}
use Rattle.book.specs.Passing.{tables}
use Rattle.file_run.proofs.Lifelong.{paid_fits, runs_as_life}
use Rattle.file_run.proofs.report.run_file.Goals as goal

pub returns-in_err-notices-clause-life : goal.returns-in_err-notices-clause-life
returns-in_err-notices-clause-life g c =
    runs_as_life (g.T.Tariff.meaning c.args.sheet.now) (g.T.Tariff.lawful c.args.sheet.now) (tables c.args.roll.now c.args.register.now) c.args.bytes.now

pub overflow_add-totals : goal.overflow_add-totals
overflow_add-totals g c =
    let m = g.T.Tariff.meaning c.args.sheet.now in
    let t = tables c.args.roll.now c.args.register.now in
    let fits = paid_fits m (g.T.Tariff.lawful c.args.sheet.now) t c.args.bytes.now in
    grind (arith, fits)

pub returns-clause-life : goal.returns-clause-life
returns-clause-life g c =
    runs_as_life (g.T.Tariff.meaning c.args.sheet.now) (g.T.Tariff.lawful c.args.sheet.now) (tables c.args.roll.now c.args.register.now) c.args.bytes.now
