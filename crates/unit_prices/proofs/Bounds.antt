-- The limits of prices, of what is rounded, and of what comes out.
use Rattle.std.specs.Option.{unwrap_or}
use Rattle.std.proofs.Common.{ℕ, ◌*◌, ◌≤◌, Bool, true, false, cond, T, Some, None, Option, ⊎_elim, mul-le-mul, mul-le-mul_right, arith}
use Rattle.std.proofs.lemmas.Bool.{cases_lt}
use Rattle.calendar.specs.Days.{is_date}
use Rattle.tariff.specs.Meaning.{Meaning, Lawful, Answered, PriceLimits, CoefficientLimits}
use Rattle.tariff.specs.declared.kinds.Kind.{Kind}
use Rattle.tariff.specs.declared.kinds.Coefficient.{Coefficient}
use Rattle.tariff.specs.Bounds.{most_numerator, most_price}
use Rattle.unit_prices.specs.Limits.{most_unit_contribution, most_unit_price}
use Rattle.unit_prices.specs.Prices.{price_at, coefficient_at, earlier, unit_price, unit_contribution}

-- a price of some tranches
pub price_fits : (p k : ℕ) → p ≤ most_price → k ≤ 20 → p * k ≤ most_unit_contribution
price_fits p k h few = mul-le-mul h few

price_found : (p : Option ℕ) → Answered PriceLimits p → unwrap_or p 0 ≤ most_price
price_found None h = omega arith
price_found (Some p) h = h.most

pub price_most : (m : Meaning) → Lawful m → (kind : Kind) (installed : ℕ) → T (is_date installed) → price_at m kind installed ≤ most_price
price_most m law kind installed real = price_found (m.price kind installed) (law.prices kind installed real)

pub limits_of : (c : Option Coefficient) → Answered CoefficientLimits c → CoefficientLimits (unwrap_or c (record { numerator = 0; denominator = 1 }))
limits_of None h = record { some = omega arith; small = omega arith; most = omega arith; four = omega arith }
limits_of (Some c) h = h

pub coefficient_limits : (m : Meaning) → Lawful m → (installed date : ℕ) → T (is_date installed) → T (is_date date) → CoefficientLimits (coefficient_at m installed date)
coefficient_limits m law installed date real today = limits_of (m.coefficient installed date) (law.coefficients installed date real today)

pub numerator_fits : (q n : ℕ) → q ≤ most_unit_contribution → n ≤ most_numerator → q * n ≤ 4800000000000000000
numerator_fits q n h few = mul-le-mul h few

-- a price times a coefficient of at most 4
pub rated_most : (m : Meaning) → Lawful m → (q : ℕ) (c : Coefficient) → q ≤ most_unit_contribution → CoefficientLimits c → m.rounded (q * c.numerator) c.denominator ≤ most_unit_price
rated_most m law q c h l =
    let r = m.rounded (q * c.numerator) c.denominator in
    let fits = numerator_fits q c.numerator h l.most in
    let near = law.near (q * c.numerator) c.denominator (omega arith) l.some l.small in
    let top : q * c.numerator ≤ most_unit_contribution * (4 * c.denominator) = mul-le-mul h l.four in
    ⊎_elim (λ lt. omega arith)
    (λ ge. absurd (let a : 40000000001 * c.denominator ≤ r * c.denominator = mul-le-mul_right c.denominator ge in omega (arith, near.over)))
    (cases_lt r 40000000001)

-- a price times at most the whole of it
pub part_fits : (q h : ℕ) → q ≤ most_unit_contribution → h ≤ 100 → q * h ≤ 1000000000000
part_fits q h most whole = mul-le-mul most whole

pub part_most : (m : Meaning) → Lawful m → (q : ℕ) → q ≤ most_unit_contribution → m.rounded (q * m.contribution) 100 ≤ most_unit_contribution
part_most m law q most =
    let fits = part_fits q m.contribution most law.contributions in
    let near = law.near (q * m.contribution) 100 (omega arith) (omega arith) (omega arith) in
    omega (arith, near.over)

-- a unit price is at most four times price × tranches
pub unit_price_most : (m : Meaning) → Lawful m → (kind : Kind) (installed date k : ℕ) → T (is_date installed) → T (is_date date) → k ≤ 20 → unit_price m kind installed date k ≤ most_unit_price
unit_price_most m law kind installed date k real today few = go (earlier installed date)
  where
    go : (b : Bool) → let c = coefficient_at m installed date in
        cond b (m.rounded (price_at m kind installed * k * c.numerator) c.denominator) (price_at m kind installed * k) ≤ most_unit_price
    go false = let p : price_at m kind installed * k ≤ most_price * 20 = mul-le-mul (price_most m law kind installed real) few in omega arith
    go true =
        let p : price_at m kind installed * k ≤ most_unit_contribution = mul-le-mul (price_most m law kind installed real) few in
        rated_most m law (price_at m kind installed * k) (coefficient_at m installed date) p (coefficient_limits m law installed date real today)

-- a unit contribution is at most price × tranches
pub unit_most : (m : Meaning) → Lawful m → (kind : Kind) (installed date k : ℕ) → T (is_date installed) → k ≤ 20 → unit_contribution m kind installed date k ≤ most_price * k
unit_most m law kind installed date k real few = go (earlier installed date)
  where
    go : (b : Bool) → cond b (m.rounded (price_at m kind installed * k * m.contribution) 100) 0 ≤ most_price * k
    go false = omega arith
    go true =
        let p = price_at m kind installed in
        let a : p ≤ most_price = price_most m law kind installed real in
        let b : p * k ≤ most_price * k = mul-le-mul a (omega arith) in
        let c : p * k * m.contribution ≤ most_price * k * 100 = mul-le-mul b law.contributions in
        let n = law.near (p * k * m.contribution) 100 (omega arith) (omega arith) (omega arith) in
        omega (arith, n.over)
