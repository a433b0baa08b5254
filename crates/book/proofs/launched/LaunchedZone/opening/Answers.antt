use Rattle.std.proofs.Common.{length, refl}
use Rattle.book.specs.Calls.{opening, opened}
use Rattle.book.specs.Answers.{installation}
use Rattle.book.specs.Passing.{tables}
use Rattle.book.specs.Promises.{launched_on}
use Rattle.book.proofs.Living.{is_answered, whole_life_laws}
use Rattle.book.proofs.launched.LaunchedZone.opening.Goals as goal

pub returns : goal.returns
returns g c =
    let m = g.T.Tariff.meaning c.args.sheet.now in
    let zone = c.args.self in
    let t = tables c.args.roll.now c.args.register.now in
    let said = installation m zone.core.figures zone.launch_date t (length c.args.strip.now) (opened c.args.date c.args.object c.args.dwellings) in
    record {
      call = is_answered m (launched_on zone t) (opening c.args.date c.args.object c.args.dwellings) c.args.strip.now _ _ _ said refl c.installed.ensures.answer;
      kept = c.installed.ensures.kept;
      laws = whole_life_laws;
    }
