use Rattle.std.proofs.Common.{◌≡◌, ◌*◌, ◌≤◌, sym, ◌∙◌, arith}
use Rattle.std.proofs.lemmas.Result.{err_from_is_err_and}
use Rattle.tariff.specs.Meaning.{CoefficientLimits}
use Rattle.unit_prices.specs.Limits.{most_unit_contribution}
use Rattle.unit_prices.proofs.Bounds.{numerator_fits, rated_most}
use Rattle.unit_prices.proofs.Checked.{plain_fits, found_limits, price_refused}
use Rattle.unit_prices.proofs.price.unit_price.Goals as goal
use Rattle.unit_prices.proofs.price.unit_price.Goals.{In_ok-plain, In-Some}
use Rattle.unit_prices.proofs.price.unit_price.Given as given

fits : (g : given.Over) (c : In_ok-plain g) → c.in_ok-plain.plain ≤ most_unit_contribution
fits g c =
    let a = c.args in
    plain_fits (g.T.Tariff.meaning a.sheet.now) (g.T.Tariff.lawful a.sheet.now) a.kind a.installed a.date a.tranches _
    (sym c.price_of.ensures.answer ∙ c.in_ok-plain.was)

limits : (g : given.Over) (c : In-Some g) → CoefficientLimits c.in-Some.coefficient
limits g c =
    let a = c.args in
    found_limits (g.T.Tariff.meaning a.sheet.now) (g.T.Tariff.lawful a.sheet.now) a.kind a.installed a.date a.tranches _
    (sym c.price_of.ensures.answer ∙ c.in_ok-plain.was) c.in-Some.coefficient (sym c.in-Some.ensures.value)

pub returns-in_err-plain-clause-answer : goal.returns-in_err-plain-clause-answer
returns-in_err-plain-clause-answer g c =
    let a = c.args in
    let p = err_from_is_err_and c.from_residual.result c.from_residual.ensures.1 in
    rw (p.1, p.2) (price_refused (g.T.Tariff.meaning a.sheet.now) a.kind a.installed a.date a.tranches _ (sym c.price_of.ensures.answer ∙ c.in_err-plain.was))

pub returns-then-installed-date-clause-most : goal.returns-then-installed-date-clause-most
returns-then-installed-date-clause-most g c = let p = fits g (goal.at.returns-then-installed-date-clause-most g c).In_ok-plain in omega arith

pub overflow_mul-plain : goal.overflow_mul-plain
overflow_mul-plain g c =
    let p = fits g (goal.at.overflow_mul-plain g c).In_ok-plain in
    let l = limits g (goal.at.overflow_mul-plain g c).In-Some in
    let most = l.most in
    let n = numerator_fits c.in_ok-plain.plain c.from.result p (omega (arith, c.from.ensures)) in omega arith

pub invariant_of-rounded : goal.invariant_of-rounded
invariant_of-rounded g c =
    let p = fits g (goal.at.invariant_of-rounded g c).In_ok-plain in
    let l = limits g (goal.at.invariant_of-rounded g c).In-Some in
    let most = l.most in
    let n = numerator_fits c.in_ok-plain.plain c.from.result p (omega (arith, c.from.ensures)) in
    record { most = omega arith; some = l.some; small = l.small }

pub returns-clause-most : goal.returns-clause-most
returns-clause-most g c =
    let m = g.T.Tariff.meaning c.args.sheet.now in
    let p = fits g (goal.at.returns-clause-most g c).In_ok-plain in
    let l = limits g (goal.at.returns-clause-most g c).In-Some in
    let most = rated_most m (g.T.Tariff.lawful c.args.sheet.now) c.in_ok-plain.plain c.in-Some.coefficient p l in
    let is : c.rounded.result ≡ m.rounded (c.in_ok-plain.plain * c.in-Some.coefficient.numerator) c.in-Some.coefficient.denominator = cc in omega arith
