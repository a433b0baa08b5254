use Rattle.std.proofs.Common.{[], ◌∷◌, length, sym, ap, ◌∙◌}
use Rattle.refusal.specs.Checks.{in_turn}
use Rattle.refusal.proofs.First.{later_places, last_place}
use Rattle.book.specs.Members.{addition}
use Rattle.book.specs.Sharing.{credits}
use Rattle.book.specs.Zone.{counted_register, counted_members}
use Rattle.book.specs.Refusals.{table_checks, roll_checks, price_checks, strip_checks}
use Rattle.book.specs.Answers.{settling_lines}
use Rattle.book.specs.Increases.{addition_in}
use Rattle.book.specs.Passing.{tables_in}
use Rattle.book.proofs.Due.{counted_credits}
use Rattle.book.proofs.levy.OpenLevy.check_share_out.Goals as goal

pub returns : goal.returns
returns g c =
    let m = g.T.Tariff.meaning c.args.sheet.now in
    let f = c.args.self.now.zone.core.figures in
    let t = tables_in c.args.lent in
    let objects = counted_register f t in
    let members = counted_members f t in
    let tables = sym c.check_tables.ensures.answer ∙ c.in_ok-check_tables.was in
    let roll = sym c.check_roll.ensures.answer ∙ c.in_ok-check_roll.was in
    let prices = sym c.check_prices.ensures.answer ∙ c.in_ok-check_prices.was in
    let adds = c.of_event-increase.ensures.value ∙ ap (λ n. addition n c.args.self.now.event members) c.index.ensures.value in
    let due = length (settling_lines m f c.args.self.now.zone.launch_date t c.args.self.now.event) in
    let from_strip = strip_checks c.args.places due ∷ [] in
    let from_sheet = price_checks m objects ∷ from_strip in
    let from_roll = roll_checks f t c.args.self.now.event ∷ from_sheet in
    let lines = sym (counted_credits m (addition_in c.of_event-increase.result) objects members) ∙ ap (λ a. length (credits m a objects members)) adds in
    record {
      answer = c.check_room.ensures.answer
          ∙ last_place (strip_checks c.args.places _)
          ∙ ap (λ n. in_turn (strip_checks c.args.places n ∷ []) (tt {0})) lines
          ∙ later_places (price_checks m objects) from_strip (tt {0}) (tt {0}) _ prices
          ∙ later_places (roll_checks f t c.args.self.now.event) from_sheet (tt {0}) (tt {0}) _ roll
          ∙ later_places (table_checks f t) from_roll (tt {0}) (tt {0}) _ tables;
    }
