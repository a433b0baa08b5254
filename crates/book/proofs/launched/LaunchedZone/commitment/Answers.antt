use Rattle.std.proofs.Common.{length, refl}
use Rattle.book.specs.Calls.{commitment, commitment_event}
use Rattle.book.specs.Answers.{billing}
use Rattle.book.specs.Passing.{tables}
use Rattle.book.specs.Promises.{launched_on}
use Rattle.book.proofs.Living.{is_answered, whole_life_laws}
use Rattle.book.proofs.launched.LaunchedZone.commitment.Goals as goal

pub returns : goal.returns
returns g c =
    let m = g.T.Tariff.meaning c.args.sheet.now in
    let zone = c.args.self in
    let t = tables c.args.roll.now c.args.register.now in
    let v = commitment_event c.args.date c.args.operator c.args.rate in
    let said = billing m zone.core.figures zone.launch_date t (length c.args.strip.now) v in
    record {
      call = is_answered m (launched_on zone t) (commitment c.args.date c.args.operator c.args.rate) c.args.strip.now _ _ _ said refl c.billed.ensures.answer;
      kept = c.billed.ensures.kept;
      laws = whole_life_laws;
    }
