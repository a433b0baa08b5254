use Rattle.std.proofs.Common.{[], ◌∷◌, length, sym, ap, ◌∙◌}
use Rattle.refusal.specs.Checks.{in_turn}
use Rattle.refusal.proofs.First.{later_places, last_place}
use Rattle.book.specs.Zone.{counted_register}
use Rattle.book.specs.Refusals.{table_checks, launched_date_checks, roll_checks, sheet_checks, strip_checks}
use Rattle.book.specs.Answers.{added, billing_lines}
use Rattle.book.specs.Passing.{tables_in}
use Rattle.book.proofs.Billed.{counted_lines}
use Rattle.book.proofs.launched.LaunchedZone.check_billing.Goals as goal

pub returns : goal.returns
returns g c =
    let m = g.T.Tariff.meaning c.args.sheet.now in
    let f = c.args.self.now.core.figures in
    let t = tables_in c.args.lent in
    let v = c.args.event.now in
    let objects = counted_register f t in
    let tables = sym c.check_tables.ensures.answer ∙ c.in_ok-check_tables.was in
    let date = sym c.check_launched_date.ensures.answer ∙ c.in_ok-check_launched_date.was in
    let roll = sym c.check_roll.ensures.answer ∙ c.in_ok-check_roll.was in
    let sheet = sym c.check_sheet.ensures.answer ∙ c.in_ok-check_sheet.was in
    let due = length (billing_lines m f c.args.self.now.launch_date t v) in
    let from_strip = strip_checks c.args.places due ∷ [] in
    let from_sheet = sheet_checks m v.date objects ∷ from_strip in
    let from_roll = roll_checks f t v ∷ from_sheet in
    let from_date = launched_date_checks f c.args.self.now.launch_date v.date ∷ from_roll in
    let lines = c.lines_billed.ensures.number ∙ sym (counted_lines m (added f c.args.self.now.launch_date t v) objects) in
    record {
      answer = c.check_strip.ensures.answer
          ∙ last_place (strip_checks c.args.places _)
          ∙ ap (λ n. in_turn (strip_checks c.args.places n ∷ []) (tt {0})) lines
          ∙ later_places (sheet_checks m v.date objects) from_strip (tt {0}) (tt {0}) _ sheet
          ∙ later_places (roll_checks f t v) from_sheet (tt {0}) (tt {0}) _ roll
          ∙ later_places (launched_date_checks f c.args.self.now.launch_date v.date) from_roll (tt {0}) (tt {0}) _ date
          ∙ later_places (table_checks f t) from_date (tt {0}) (tt {0}) _ tables;
    }
