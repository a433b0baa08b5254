use Rattle.std.proofs.Common.{◌≡◌, length, Ok, sym, refl, ap, ◌∙◌, arith}
use Rattle.refusal.proofs.First.{carried, still_refused}
use Rattle.book.specs.Members.{addition}
use Rattle.book.specs.Zone.{strip_after, counted_members, counted_register}
use Rattle.book.specs.Billing.{bill}
use Rattle.book.specs.Promises.{line_count}
use Rattle.book.specs.Answers.{added, billing_checks, billing_effect}
use Rattle.book.specs.Increases.{addition_in}
use Rattle.book.specs.Passing.{tables}
use Rattle.book.proofs.Billed.{Billable, billable, billed_is, written_is, room_for}
use Rattle.book.proofs.launched.LaunchedZone.billed.Goals as goal
use Rattle.book.proofs.launched.LaunchedZone.billed.Goals.{In-Ok, After-of_event-increase}
use Rattle.book.proofs.launched.LaunchedZone.billed.Given as given

able : (g : given.Over) (c : In-Ok g) → Billable (g.T.Tariff.meaning c.args.sheet.now) c.args.self.core.figures c.args.self.launch_date (tables c.args.roll.now c.args.register.now) (length c.args.strip.now) c.args.event
able g c =
    let m = g.T.Tariff.meaning c.args.sheet.now in
    let t = tables c.args.roll.now c.args.register.now in
    billable m c.args.self.core.figures c.args.self.launch_date t (length c.args.strip.now) c.args.event _
    (sym c.check_billing.ensures.answer ∙ c.in-Ok.is)

-- the code's increase is what the event adds
adds : (g : given.Over) (c : After-of_event-increase g) → addition_in c.of_event-increase.result ≡ added c.args.self.core.figures c.args.self.launch_date (tables c.args.roll.now c.args.register.now) c.args.event
adds g c =
    let members = counted_members c.args.self.core.figures (tables c.args.roll.now c.args.register.now) in
    c.of_event-increase.ensures.value ∙ ap (λ n. addition n c.args.event members) c.year_index-index.ensures.value

pub of_event-increase-requires-clause-index : goal.of_event-increase-requires-clause-index
of_event-increase-requires-clause-index g c =
    let a = able g (goal.at.of_event-increase-requires-clause-index g c).In-Ok in
    omega (arith, a.in_time, c.year_index-index.ensures.value)

pub of_event-increase-requires-clause-rate : goal.of_event-increase-requires-clause-rate
of_event-increase-requires-clause-rate g c = (able g (goal.at.of_event-increase-requires-clause-rate g c).In-Ok).rate

pub of_event-increase-requires-clause-real : goal.of_event-increase-requires-clause-real
of_event-increase-requires-clause-real g c = (able g (goal.at.of_event-increase-requires-clause-real g c).In-Ok).real

pub bill-lines-requires : goal.bill-lines-requires
bill-lines-requires g c =
    let m = g.T.Tariff.meaning c.args.sheet.now in
    let a = able g (goal.at.bill-lines-requires g c).In-Ok in
    let is = adds g (goal.at.bill-lines-requires g c).After-of_event-increase in
    record { room = room_for m c.args.self.core.figures c.args.self.launch_date (tables c.args.roll.now c.args.register.now) (length c.args.strip.now) c.args.event _ is a.room }

pub invariant_of-levy-clause-real : goal.invariant_of-levy-clause-real
invariant_of-levy-clause-real g c = (able g (goal.at.invariant_of-levy-clause-real g c).In-Ok).real

pub returns-in-Ok : goal.returns-in-Ok
returns-in-Ok g c =
    let m = g.T.Tariff.meaning c.args.sheet.now in
    let f = c.args.self.core.figures in
    let d = c.args.self.launch_date in
    let t = tables c.args.roll.now c.args.register.now in
    let places = length c.args.strip.now in
    let v = c.args.event in
    let is = adds g (goal.at.returns-in-Ok g c).After-of_event-increase in
    let accepted = carried (billing_checks m f d t places v) tt _ (λ _. billing_effect m f d t v) (sym c.check_billing.ensures.answer ∙ c.in-Ok.is) in
    record {
      answer = record {
        given = ap Ok (billed_is m f d t places v _ c.args.strip.now _ _ is c.bill-lines.ensures.number c.bill-lines.ensures.strip) ∙ accepted;
        strip = written_is m f d t places v _ c.args.strip.now _ is c.bill-lines.ensures.strip ∙ ap (strip_after c.args.strip.now) accepted;
        count = c.bill-lines.ensures.number ∙ ap (λ a. length (bill m a (counted_register f t))) is ∙ ap line_count accepted;
      };
      kept = tt;
    }

pub returns-in-Err : goal.returns-in-Err
returns-in-Err g c =
    let m = g.T.Tariff.meaning c.args.sheet.now in
    let f = c.args.self.core.figures in
    let d = c.args.self.launch_date in
    let t = tables c.args.roll.now c.args.register.now in
    let places = length c.args.strip.now in
    let v = c.args.event in
    let refused = still_refused (billing_checks m f d t places v) tt (billing_effect m f d t v) _ (sym c.check_billing.ensures.answer ∙ c.in-Err.is) in
    record { answer = record { given = refused; strip = ap (strip_after c.args.strip.now) refused; count = ap line_count refused }; kept = refl }
