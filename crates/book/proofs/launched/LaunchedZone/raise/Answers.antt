use Rattle.std.proofs.Common.{length, refl}
use Rattle.book.specs.Calls.{raise, raise_event}
use Rattle.book.specs.Answers.{billing}
use Rattle.book.specs.Passing.{tables}
use Rattle.book.specs.Promises.{launched_on}
use Rattle.book.proofs.Living.{is_answered, whole_life_laws, cuts_fairly}
use Rattle.book.proofs.launched.LaunchedZone.raise.Goals as goal

pub returns : goal.returns
returns g c =
    let m = g.T.Tariff.meaning c.args.sheet.now in
    let law = g.T.Tariff.lawful c.args.sheet.now in
    let zone = c.args.self in
    let t = tables c.args.roll.now c.args.register.now in
    let places = length c.args.strip.now in
    let v = raise_event c.args.date c.args.operator c.args.rate in
    let said = billing m zone.core.figures zone.launch_date t places v in
    record {
      call = is_answered m (launched_on zone t) (raise c.args.date c.args.operator c.args.rate) c.args.strip.now _ _ _ said refl c.billed.ensures.answer;
      kept = c.billed.ensures.kept;
      laws = whole_life_laws;
      cut = cuts_fairly m law (launched_on zone t) zone.launch_date refl places c.args.date c.args.operator c.args.rate said _ refl c.billed.ensures.answer.given;
    }
