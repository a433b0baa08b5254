use Rattle.std.proofs.Common.{length, Ok, sym, refl, ap, ◌∙◌, arith}
use Rattle.refusal.proofs.First.{carried, still_refused}
use Rattle.book.specs.Zone.{strip_after}
use Rattle.book.specs.Answers.{installation_checks, installation_effect}
use Rattle.book.specs.Passing.{tables}
use Rattle.book.specs.Promises.{line_count}
use Rattle.book.proofs.Installing.{Installable, installable, installed_is}
use Rattle.book.proofs.launched.LaunchedZone.installed.Goals as goal
use Rattle.book.proofs.launched.LaunchedZone.installed.Goals.{In-Ok}
use Rattle.book.proofs.launched.LaunchedZone.installed.Given as given

able : (g : given.Over) (c : In-Ok g) → Installable (g.T.Tariff.meaning c.args.sheet.now) c.args.self.core.figures c.args.self.launch_date (tables c.args.roll.now c.args.register.now) (length c.args.strip.now) c.args.object
able g c =
    let m = g.T.Tariff.meaning c.args.sheet.now in
    let t = tables c.args.roll.now c.args.register.now in
    installable m c.args.self.core.figures c.args.self.launch_date t (length c.args.strip.now) c.args.object _
    (sym c.check_installation.ensures.answer ∙ c.in-Ok.is)

pub invariant_of-charge : goal.invariant_of-charge
invariant_of-charge g c = record { sound = (able g (goal.at.invariant_of-charge g c).In-Ok).object_sound }

pub charge-lines-requires : goal.charge-lines-requires
charge-lines-requires g c = record { room = (able g (goal.at.charge-lines-requires g c).In-Ok).room }

pub bounds-register-figures : goal.bounds-register-figures
bounds-register-figures g c = let a = able g (goal.at.bounds-register-figures g c).In-Ok in omega (arith, a.space)

pub invariant_of-zone : goal.invariant_of-zone
invariant_of-zone g c = let a = able g (goal.at.invariant_of-zone g c).In-Ok in record { few_operators = c.args.self.core.few_operators; few_objects = omega (arith, a.fewer) }

pub returns-in-Ok : goal.returns-in-Ok
returns-in-Ok g c =
    let m = g.T.Tariff.meaning c.args.sheet.now in
    let f = c.args.self.core.figures in
    let d = c.args.self.launch_date in
    let t = tables c.args.roll.now c.args.register.now in
    let places = length c.args.strip.now in
    let o = c.args.object in
    let a = able g (goal.at.returns-in-Ok g c).In-Ok in
    let accepted = carried (installation_checks m f d t places o) tt _ (λ _. installation_effect m f d t o) (sym c.check_installation.ensures.answer ∙ c.in-Ok.is) in
    record {
      answer = record {
        given = ap Ok (installed_is m f d t places o a.space c.args.strip.now _ _ _ c.charge-lines.ensures.number c.charge-lines.ensures.strip refl) ∙ accepted;
        strip = c.charge-lines.ensures.strip ∙ ap (strip_after c.args.strip.now) accepted;
        count = c.charge-lines.ensures.number ∙ ap line_count accepted;
      };
      kept = tt;
    }

pub returns-in-Err : goal.returns-in-Err
returns-in-Err g c =
    let m = g.T.Tariff.meaning c.args.sheet.now in
    let f = c.args.self.core.figures in
    let d = c.args.self.launch_date in
    let t = tables c.args.roll.now c.args.register.now in
    let places = length c.args.strip.now in
    let o = c.args.object in
    let refused = still_refused (installation_checks m f d t places o) tt (installation_effect m f d t o) _ (sym c.check_installation.ensures.answer ∙ c.in-Err.is) in
    record { answer = record { given = refused; strip = ap (strip_after c.args.strip.now) refused; count = ap line_count refused }; kept = (refl, refl) }
