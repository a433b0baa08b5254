use Rattle.std.proofs.Common.{ap, arith}
use Rattle.std.proofs.lemmas.Result.{err_from_is_err_and}
use Rattle.book.specs.Calls.{cabling}
use Rattle.book.specs.Passing.{tables}
use Rattle.file_run.specs.Zones.{tables_of}
use Rattle.file_run.proofs.Leading.{stays_launched, refused_launched}
use Rattle.file_run.proofs.ledger.Ledger.cabling.Goals as goal

pub returns : goal.returns
returns g c = record {
  answer = stays_launched (g.T.Tariff.meaning c.args.sheet.now) c.args.zone c.in_ok-done.done.zone (tables_of c.args.self.now) (tables c.args.self.now.roll c.cabling.new.register) (cabling c.args.date c.args.object c.args.third_party c.args.dwellings) _ _ (omega arith)
      c.in_ok-done.ensures.call.given;
}

pub returns-in_err-done : goal.returns-in_err-done
returns-in_err-done g c =
    let p = err_from_is_err_and c.from_residual.result c.from_residual.ensures.1 in
    let back = c.in_err-done.field-0.0 in
    let turned = c.in_err-done.ensures in
    record {
      answer = rw (p.1, p.2) (refused_launched (g.T.Tariff.meaning c.args.sheet.now) c.args.zone back.kept (tables_of c.args.self.now) (tables c.args.self.now.roll c.cabling.new.register) (cabling c.args.date c.args.object c.args.third_party c.args.dwellings) _ back.refusal (omega arith)
          turned.call.given turned.kept.0 (ap (tables c.args.self.now.roll) turned.kept.1));
    }
