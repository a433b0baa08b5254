use Rattle.std.proofs.Common.{ap, refl}
use Rattle.std.proofs.lemmas.Result.{err_from_is_err_and}
use Rattle.book.specs.Calls.{commitment, raise, launch}
use Rattle.book.specs.Passing.{tables}
use Rattle.book.specs.Promises.{prepared}
use Rattle.file_run.specs.Zones.{tables_of}
use Rattle.file_run.proofs.Leading.{accepted, refused}
use Rattle.file_run.proofs.ledger.Ledger.taken_before_launch.Goals as goal

pub returns-in_err-after-in-Commitment : goal.returns-in_err-after-in-Commitment
returns-in_err-after-in-Commitment c =
    let p = err_from_is_err_and c.from_residual.result c.from_residual.ensures.1 in
    let back = c.in_err-after-in-Commitment.field-0.0 in
    let kept = c.in_err-after-in-Commitment.ensures.kept in
    record {
      answer = λ m. rw (p.1, p.2, c.in-Commitment.is) (refused m c.args.zone back.kept (tables_of c.args.self.now) _ (commitment c.in-Commitment.date c.in-Commitment.operator c.in-Commitment.rate) back.refusal (c.in_err-after-in-Commitment.ensures.call m).given kept.0 (ap (λ r. tables r c.args.self.now.register) kept.1));
    }

pub returns-in_ok-after-in-Commitment : goal.returns-in_ok-after-in-Commitment
returns-in_ok-after-in-Commitment c = record {
  answer = λ m. rw c.in-Commitment.is (accepted m (prepared c.args.zone (tables_of c.args.self.now)) (commitment c.in-Commitment.date c.in-Commitment.operator c.in-Commitment.rate) _ (c.in_ok-after-in-Commitment.ensures.call m).given);
}

pub returns-in_err-raised-in-Raise : goal.returns-in_err-raised-in-Raise
returns-in_err-raised-in-Raise c =
    let p = err_from_is_err_and c.from_residual-in_err-raised-in-Raise.result c.from_residual-in_err-raised-in-Raise.ensures.1 in
    let back = c.in_err-raised-in-Raise.field-0.0 in
    let kept = c.in_err-raised-in-Raise.ensures.kept in
    record {
      answer = λ m. rw (p.1, p.2, c.in-Raise.is) (refused m c.args.zone back.kept (tables_of c.args.self.now) _ (raise c.in-Raise.date c.in-Raise.operator c.in-Raise.rate) back.refusal (c.in_err-raised-in-Raise.ensures.call m).given kept.0 (ap (λ r. tables r c.args.self.now.register) kept.1));
    }

pub returns-in_ok-raised-in-Raise : goal.returns-in_ok-raised-in-Raise
returns-in_ok-raised-in-Raise c = record {
  answer = λ m. rw c.in-Raise.is (accepted m (prepared c.args.zone (tables_of c.args.self.now)) (raise c.in-Raise.date c.in-Raise.operator c.in-Raise.rate) _ (c.in_ok-raised-in-Raise.ensures.call m).given);
}

pub returns-in_err-launched-in-Launch : goal.returns-in_err-launched-in-Launch
returns-in_err-launched-in-Launch c =
    let p = err_from_is_err_and c.from_residual-in_err-launched-in-Launch.result c.from_residual-in_err-launched-in-Launch.ensures.1 in
    let back = c.in_err-launched-in-Launch.field-0.0 in
    let kept = c.in_err-launched-in-Launch.ensures.kept in
    record {
      answer = λ m. rw (p.1, p.2, c.in-Launch.is) (refused m c.args.zone back.kept (tables_of c.args.self.now) _ (launch c.in-Launch.date) back.refusal (c.in_err-launched-in-Launch.ensures.call m).given kept refl);
    }

pub returns-in_ok-launched-in-Launch : goal.returns-in_ok-launched-in-Launch
returns-in_ok-launched-in-Launch c = record {
  answer = λ m. rw c.in-Launch.is (accepted m (prepared c.args.zone (tables_of c.args.self.now)) (launch c.in-Launch.date) _ (c.in_ok-launched-in-Launch.ensures.call m).given);
}
