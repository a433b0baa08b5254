use Rattle.std.proofs.Common.{◌≡◌, length, Ok, sym, refl, ap, ◌∙◌}
use Rattle.refusal.proofs.First.{carried, still_refused}
use Rattle.book.specs.Members.{addition}
use Rattle.book.specs.Zone.{strip_after, counted_roll, counted_register, counted_members}
use Rattle.book.specs.Answers.{added, settling_checks, settling_effect, settling}
use Rattle.book.specs.Increases.{addition_in}
use Rattle.book.specs.Passing.{tables}
use Rattle.book.specs.Promises.{levied_on, line_count, IsWritten}
use Rattle.book.specs.Sharing.{credits}
use Rattle.book.specs.Calls.{share_out}
use Rattle.book.proofs.Joining.{room_of}
use Rattle.book.proofs.Living.{is_answered, whole_life_laws}
use Rattle.book.proofs.Afterwards.{entered_blind}
use Rattle.book.proofs.Settled.{Settleable, settleable, settled_is, written_is, room_for, few_entered}
use Rattle.book.proofs.levy.OpenLevy.share_out.Goals as goal
use Rattle.book.proofs.levy.OpenLevy.share_out.Goals.{In_default, After-of_event-increase}
use Rattle.book.proofs.levy.OpenLevy.share_out.Given as given

able : (g : given.Over) (c : In_default g) → Settleable (g.T.Tariff.meaning c.args.sheet.now) c.args.self.zone.core.figures c.args.self.zone.launch_date (tables c.args.roll.now c.args.register.now) (length c.args.strip.now) c.args.self.event
able g c =
    let m = g.T.Tariff.meaning c.args.sheet.now in
    let t = tables c.args.roll.now c.args.register.now in
    let levy = c.args.self in
    settleable m levy.zone.core.figures levy.zone.launch_date t (length c.args.strip.now) levy.event _ levy.zone.core.few_operators
    (sym c.check_share_out.ensures.answer ∙ c.in_default.is)

-- the code's increase is what the event adds
adds : (g : given.Over) (c : After-of_event-increase g) → addition_in c.of_event-increase.result ≡ added c.args.self.zone.core.figures c.args.self.zone.launch_date (tables c.args.roll.now c.args.register.now) c.args.self.event
adds g c =
    let members = counted_members c.args.self.zone.core.figures (tables c.args.roll.now c.args.register.now) in
    c.of_event-increase.ensures.value ∙ ap (λ n. addition n c.args.self.event members) c.index-index.ensures.value

pub settle-operators-requires-clause-place : goal.settle-operators-requires-clause-place
settle-operators-requires-clause-place g c =
    let a = able g (goal.at.settle-operators-requires-clause-place g c).In_default in
    let is = adds g (goal.at.settle-operators-requires-clause-place g c).After-of_event-increase in
    room_of _ _ (counted_roll c.args.self.zone.core.figures (tables c.args.roll.now c.args.register.now)) _ is a.fits.space

pub settle-operators-requires-clause-room : goal.settle-operators-requires-clause-room
settle-operators-requires-clause-room g c =
    let levy = c.args.self in
    let a = able g (goal.at.settle-operators-requires-clause-room g c).In_default in
    let is = adds g (goal.at.settle-operators-requires-clause-room g c).After-of_event-increase in
    room_for (g.T.Tariff.meaning c.args.sheet.now) levy.zone.core.figures levy.zone.launch_date (tables c.args.roll.now c.args.register.now) (length c.args.strip.now) levy.event _ is a.room

pub invariant_of-zone : goal.invariant_of-zone
invariant_of-zone g c =
    let m = g.T.Tariff.meaning c.args.sheet.now in
    let levy = c.args.self in
    let t = tables c.args.roll.now c.args.register.now in
    let a = able g (goal.at.invariant_of-zone g c).In_default in
    let is = adds g (goal.at.invariant_of-zone g c).After-of_event-increase in
    record {
      few_operators = few_entered m levy.zone.core.figures levy.zone.launch_date t (length c.args.strip.now) levy.event _ _ is a.fits.few c.settle-operators.ensures.number (entered_blind _ (addition_in c.of_event-increase.result) (counted_roll levy.zone.core.figures t));
      few_objects = levy.zone.core.few_objects;
    }

pub returns : goal.returns
returns g c =
    let m = g.T.Tariff.meaning c.args.sheet.now in
    let f = c.args.self.zone.core.figures in
    let d = c.args.self.zone.launch_date in
    let t = tables c.args.roll.now c.args.register.now in
    let places = length c.args.strip.now in
    let v = c.args.self.event in
    let is = adds g (goal.at.returns g c).After-of_event-increase in
    let accepted = carried (settling_checks m f d t places v) tt _ (λ _. settling_effect m f d t v) (sym c.check_share_out.ensures.answer ∙ c.in_default.is) in
    let done = c.settle-operators.ensures in
    let answer = ap Ok (settled_is m f d t places v _ _ _ _ c.args.strip.now _ is (ap (λ x. x.contributed) done.moved) (ap (λ x. x.credited) done.moved) (ap (λ x. x.unshared) done.moved) (ap (λ x. x.credit_lines) done.moved) done.number done.roll done.strip) ∙ accepted in
    let written : IsWritten (settling m f d t places v) c.args.strip.now _ _ _ = record {
      given = answer;
      strip = written_is m f d t places v _ c.args.strip.now _ is done.strip ∙ ap (strip_after c.args.strip.now) accepted;
      count = ap (λ x. x.credit_lines) done.moved ∙ ap (λ a. length (credits m a (counted_register f t) (counted_members f t))) is ∙ ap line_count accepted;
    } in
    record {
      call = is_answered m (levied_on c.args.self t) share_out c.args.strip.now _ _ _ (settling m f d t places v) refl written;
      kept = tt;
      laws = whole_life_laws;
    }

pub returns-in-Err : goal.returns-in-Err
returns-in-Err g c =
    let m = g.T.Tariff.meaning c.args.sheet.now in
    let f = c.args.self.zone.core.figures in
    let d = c.args.self.zone.launch_date in
    let t = tables c.args.roll.now c.args.register.now in
    let places = length c.args.strip.now in
    let v = c.args.self.event in
    let refused = still_refused (settling_checks m f d t places v) tt (settling_effect m f d t v) _ (sym c.check_share_out.ensures.answer ∙ c.in-Err.is) in
    let written : IsWritten (settling m f d t places v) c.args.strip.now _ _ _ = record {
      given = refused;
      strip = ap (strip_after c.args.strip.now) refused;
      count = ap line_count refused;
    } in
    record {
      call = is_answered m (levied_on c.args.self t) share_out c.args.strip.now _ _ _ (settling m f d t places v) refl written;
      kept = (refl, refl);
      laws = whole_life_laws;
    }
