use Rattle.std.proofs.Common.{length, refl, ap}
use Rattle.book.specs.Calls.{cabling, cabled}
use Rattle.book.specs.Answers.{installation}
use Rattle.book.specs.Passing.{tables}
use Rattle.book.specs.Promises.{launched_on}
use Rattle.book.specs.declared.entries.RegisterEntry.{RegisterEntry}
use Rattle.book.proofs.Living.{is_answered, is_written_along, whole_life_laws}
use Rattle.book.proofs.launched.LaunchedZone.cabling.Goals as goal

pub returns : goal.returns
returns g c =
    let m = g.T.Tariff.meaning c.args.sheet.now in
    let zone = c.args.self in
    let t = tables c.args.roll.now c.args.register.now in
    let said = λ (e : RegisterEntry). installation m zone.core.figures zone.launch_date t (length c.args.strip.now) e in
    let call = cabling c.args.date c.args.object c.args.third c.args.dwellings in
    let written = is_written_along (ap said c.site_entry-entry.ensures.value) c.installed.ensures.answer in
    record {
      call = is_answered m (launched_on zone t) call c.args.strip.now _ _ _ (said (cabled c.args.date c.args.object c.args.third c.args.dwellings)) refl written;
      kept = c.installed.ensures.kept;
      laws = whole_life_laws;
    }
