use Rattle.std.proofs.Common.{Ok, sym, refl, ap, ◌∙◌}
use Rattle.refusal.proofs.First.{carried, still_refused}
use Rattle.book.specs.Zone.{counted_roll}
use Rattle.book.specs.Answers.{subscription_checks, subscription_effect}
use Rattle.book.specs.Passing.{tables}
use Rattle.book.proofs.Admitting.{rates_sound}
use Rattle.book.proofs.Joining.{subscribable, room_of, subscription_done}
use Rattle.book.proofs.prepared.PreparedZone.subscribed.Goals as goal

pub of_event-increase-requires-clause-rate : goal.of_event-increase-requires-clause-rate
of_event-increase-requires-clause-rate c =
    let f = c.args.self.core.figures in
    let t = tables c.args.roll.now c.args.register.now in
    let v = c.args.event in
    (subscribable f t v _ c.args.self.core.few_operators (sym c.check_subscription.ensures.answer ∙ c.in-Ok.is)).rate

pub of_event-increase-requires-clause-real : goal.of_event-increase-requires-clause-real
of_event-increase-requires-clause-real c =
    let f = c.args.self.core.figures in
    let t = tables c.args.roll.now c.args.register.now in
    let v = c.args.event in
    (subscribable f t v _ c.args.self.core.few_operators (sym c.check_subscription.ensures.answer ∙ c.in-Ok.is)).real

pub enter-operators-requires : goal.enter-operators-requires
enter-operators-requires c =
    let f = c.args.self.core.figures in
    let t = tables c.args.roll.now c.args.register.now in
    let v = c.args.event in
    let s = subscribable f t v _ c.args.self.core.few_operators (sym c.check_subscription.ensures.answer ∙ c.in-Ok.is) in
    let is = c.of_event-increase.ensures.value in
    record {
      counted = s.tables_in.roll_long;
      rates = rates_sound (counted_roll f t) s.tables_in.entries_sound;
      room = room_of _ _ (counted_roll f t) _ is s.fits.space;
    }

pub invariant_of-result : goal.invariant_of-result
invariant_of-result c =
    let f = c.args.self.core.figures in
    let t = tables c.args.roll.now c.args.register.now in
    let v = c.args.event in
    let s = subscribable f t v _ c.args.self.core.few_operators (sym c.check_subscription.ensures.answer ∙ c.in-Ok.is) in
    let is = c.of_event-increase.ensures.value in
    record {
      few_operators = rw c.enter-operators.ensures.number (room_of _ _ (counted_roll f t) 16 is s.fits.few);
      few_objects = c.args.self.core.few_objects;
    }

pub returns-in-Ok : goal.returns-in-Ok
returns-in-Ok c =
    let f = c.args.self.core.figures in
    let t = tables c.args.roll.now c.args.register.now in
    let v = c.args.event in
    let is = c.of_event-increase.ensures.value in
    let accepted = carried (subscription_checks f t v) tt _ (λ _. subscription_effect f t v) (sym c.check_subscription.ensures.answer ∙ c.in-Ok.is) in
    record {
      answer = ap Ok (subscription_done f t v _ _ _ is c.enter-operators.ensures.number c.enter-operators.ensures.roll) ∙ accepted;
      kept = tt;
    }

pub returns-in-Err : goal.returns-in-Err
returns-in-Err c =
    let f = c.args.self.core.figures in
    let t = tables c.args.roll.now c.args.register.now in
    let v = c.args.event in
    record {
      answer = still_refused (subscription_checks f t v) tt (subscription_effect f t v) _ (sym c.check_subscription.ensures.answer ∙ c.in-Err.is);
      kept = (refl, refl);
    }
