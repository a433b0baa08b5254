use Rattle.std.proofs.Common.{◌≡◌, ap, arith}
use Rattle.std.proofs.lemmas.Result.{err_from_is_err_and}
use Rattle.book.specs.Passing.{tables}
use Rattle.at_once.specs.Steps.{strips, room_on}
use Rattle.file_run.specs.Taking.{strip_places}
use Rattle.file_run.specs.Zones.{tables_of}
use Rattle.file_run.proofs.AtOnce.{wide, leads_on, leads_nowhere}
use Rattle.file_run.proofs.ledger.Ledger.settled.Goals as goal

pub returns : goal.returns
returns g c =
    let ledger = c.args.self.now in
    let room = room_on (strips ledger.bill ledger.credits) strip_places in
    let bill : room.bill ≡ strip_places = omega arith in
    let first : room.first ≡ strip_places = omega arith in
    let credits : room.credits ≡ strip_places = omega arith in
    let same : room ≡ wide = λ i. record { bill = bill i; first = first i; credits = credits i } in
    let done = c.in_ok-done.ensures in
    record {
      answer = leads_on (g.T.Tariff.meaning c.args.sheet.now) c.args.zone (tables_of ledger) c.args.event room same (omega arith) (omega arith) _ done.answer done.settled.state;
    }

pub returns-in_err-done : goal.returns-in_err-done
returns-in_err-done g c =
    let ledger = c.args.self.now in
    let room = room_on (strips ledger.bill ledger.credits) strip_places in
    let bill : room.bill ≡ strip_places = omega arith in
    let first : room.first ≡ strip_places = omega arith in
    let credits : room.credits ≡ strip_places = omega arith in
    let same : room ≡ wide = λ i. record { bill = bill i; first = first i; credits = credits i } in
    let p = err_from_is_err_and c.from_residual.result c.from_residual.ensures.1 in
    let back = c.in_err-done.field-0.0 in
    let turned = c.in_err-done.ensures in
    record {
      answer = rw (p.1, p.2) (leads_nowhere (g.T.Tariff.meaning c.args.sheet.now) c.args.zone (tables_of ledger) c.args.event room same (omega arith) (omega arith)
          back.kept _ back.refusal turned.answer turned.kept.0 (ap (λ r. tables r ledger.register) turned.kept.1));
    }
