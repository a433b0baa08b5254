use Rattle.std.proofs.Common.{◌≡◌, ◌*◌, ◌≤◌, [], sym, ◌∙◌, arith}
use Rattle.std.proofs.lemmas.Result.{err_from_is_err_and}
use Rattle.unit_prices.specs.Limits.{most_unit_contribution}
use Rattle.unit_prices.specs.Prices.{price_at, unit_contribution}
use Rattle.unit_prices.specs.Refusals.{unit_contribution_checks}
use Rattle.unit_prices.proofs.Bounds.{part_fits, part_most}
use Rattle.unit_prices.proofs.Checked.{plain_fits, refused_before}
use Rattle.unit_prices.proofs.price.unit_contribution.Goals as goal
use Rattle.unit_prices.proofs.price.unit_contribution.Goals.{In_ok-price}
use Rattle.unit_prices.proofs.price.unit_contribution.Given as given

fits : (g : given.Over) (c : In_ok-price g) → c.in_ok-price.price ≤ most_unit_contribution
fits g c =
    let a = c.args in
    plain_fits (g.T.Tariff.meaning a.sheet.now) (g.T.Tariff.lawful a.sheet.now) a.kind a.installed a.date a.tranches _
    (sym c.price_of.ensures.answer ∙ c.in_ok-price.was)

pub returns-in_err-price-clause-answer : goal.returns-in_err-price-clause-answer
returns-in_err-price-clause-answer g c =
    let m = g.T.Tariff.meaning c.args.sheet.now in
    let a = c.args in
    let p = err_from_is_err_and c.from_residual.result c.from_residual.ensures.1 in
    let checks = unit_contribution_checks m a.kind a.installed a.date a.tranches in
    rw (p.1, p.2) (refused_before checks [] (price_at m a.kind a.installed * a.tranches) (unit_contribution m a.kind a.installed a.date a.tranches) _ (sym c.price_of.ensures.answer ∙ c.in_err-price.was))

pub overflow_mul-price : goal.overflow_mul-price
overflow_mul-price g c =
    let law = g.T.Tariff.lawful c.args.sheet.now in
    let p = fits g (goal.at.overflow_mul-price g c).In_ok-price in
    let few = law.contributions in
    let n = part_fits c.in_ok-price.price c.from.result p (omega (arith, few, c.contribution.ensures.value, c.from.ensures)) in omega arith

pub invariant_of-rounded : goal.invariant_of-rounded
invariant_of-rounded g c =
    let law = g.T.Tariff.lawful c.args.sheet.now in
    let p = fits g (goal.at.invariant_of-rounded g c).In_ok-price in
    let few = law.contributions in
    let n = part_fits c.in_ok-price.price c.from.result p (omega (arith, few, c.contribution.ensures.value, c.from.ensures)) in
    record { most = omega arith; some = omega arith; small = omega arith }

pub returns-clause-most : goal.returns-clause-most
returns-clause-most g c =
    let m = g.T.Tariff.meaning c.args.sheet.now in
    let p = fits g (goal.at.returns-clause-most g c).In_ok-price in
    let most = part_most m (g.T.Tariff.lawful c.args.sheet.now) c.in_ok-price.price p in
    let is : c.rounded.result ≡ m.rounded (c.in_ok-price.price * m.contribution) 100 = cc in omega arith
