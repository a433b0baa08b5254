-- The limits of a row, by one test over its years.
use Rattle.std.specs.Prelude.{◌≡◌, ℕ, ◌+◌, ◌-◌, ◌*◌, ◌/◌, ◌%◌, ◌≤◌, Bool, true, ◌&&◌, Some, None, Option, nat_le, refl}
use Rattle.std.proofs.Common.{ap, ◌∙◌, sym, add-mul, mul-le-mul_left, arith}
use Rattle.std.proofs.lemmas.Bool.{and_parts, leb-true, cond_both}
use Rattle.calendar.specs.Days.{within}
use Rattle.tariff.specs.Bounds.{most_numerator, most_denominator, most_coefficient, whole}
use Rattle.tariff.specs.Meaning.{Answered, CoefficientLimits}
use Rattle.tariff.specs.Most.{all_at_most, at_most}
use Rattle.tariff.specs.declared.kinds.Coefficient.{Coefficient}
use Rattle.sheet_parts.specs.Row.{last_month, in_1200ths, interpolated, coefficient_after, common_row}
use Rattle.sheet_parts.specs.declared.row.Row.{Row}

-- The tariff's limits on a coefficient, as a test.
abbrev pub coefficient_fits : Coefficient → Bool
coefficient_fits c =
    let four = nat_le c.numerator (most_coefficient * c.denominator) in
    within 1 c.denominator most_denominator && (nat_le c.numerator most_numerator && four)

abbrev pub fits_if_any : Option Coefficient → Bool
fits_if_any None = true
fits_if_any (Some c) = coefficient_fits c

-- No year of a row passes the value 4, and what holds beyond it is a coefficient.
abbrev pub row_fits : Row → Bool
row_fits row = all_at_most (most_coefficient * whole) row.years && fits_if_any row.beyond

pub coefficient_limits : (c : Coefficient) → coefficient_fits c ≡ true → CoefficientLimits c
coefficient_limits c fits =
    let parts = and_parts (within 1 c.denominator most_denominator) _ fits in
    let below = and_parts (nat_le 1 c.denominator) _ parts.0 in
    let above = and_parts (nat_le c.numerator most_numerator) _ parts.1 in
    record {
      some = leb-true 1 c.denominator below.0;
      small = leb-true c.denominator most_denominator below.1;
      most = leb-true c.numerator most_numerator above.0;
      four = leb-true c.numerator (most_coefficient * c.denominator) above.1;
    }

beyond_limits : (beyond : Option Coefficient) → fits_if_any beyond ≡ true
    → Answered CoefficientLimits beyond
beyond_limits None fits = tt
beyond_limits (Some c) fits = coefficient_limits c fits

-- between two years a row passes no bound of all its years
pub interpolated_most : (most : ℕ) (row : Row) → all_at_most most row.years ≡ true
    → (x y : ℕ) → y ≤ 12 → interpolated row x y ≤ 12 * most
interpolated_most most row all x y few =
    let front = mul-le-mul_left (12 - y) (at_most most row.years all x) in
    let back = mul-le-mul_left y (at_most most row.years all (x + 1)) in
    let all_parts : (12 - y) * most + y * most ≡ 12 * most =
    sym (add-mul (12 - y) y most) ∙ ap (λ n. n * most) (omega arith) in
    omega arith

-- what is true of every mean of two years, and of what holds beyond the row, is true after any
-- number of months
pub after_keeps : (P : Coefficient → Type 0) (row : Row) →
    ((x y : ℕ) → y ≤ 12 → P (in_1200ths (interpolated row x y))) → Answered P row.beyond
    → (m : ℕ) → Answered P (coefficient_after row m)
unfolding coefficient_after
after_keeps P row means beyond m =
    let within_row = Some (in_1200ths (interpolated row (m / 12) (m % 12))) in
    cond_both (nat_le m last_month) within_row row.beyond (Answered P)
    (λ _. means (m / 12) (m % 12) (omega arith)) (λ _. beyond)

pub row_limits : (row : Row) → row_fits row ≡ true
    → (m : ℕ) → Answered CoefficientLimits (coefficient_after row m)
row_limits row fits =
    let years = all_at_most (most_coefficient * whole) row.years in
    let parts = and_parts years (fits_if_any row.beyond) fits in
    after_keeps CoefficientLimits row
    (λ x y few.
    let most = interpolated_most (most_coefficient * whole) row parts.0 x y few in
    record { some = omega arith; small = omega arith; most = omega arith; four = omega arith })
    (beyond_limits row.beyond parts.1)

pub common_limits : (m : ℕ) → Answered CoefficientLimits (coefficient_after common_row m)
common_limits = row_limits common_row refl

-- A coefficient of the common row has the denominator 1,200, and is at most 1.28.
pub record InCommonRow (c : Coefficient) : Type 0 where
  pub denominator : c.denominator ≡ 1200
  pub most : c.numerator ≤ 1536

pub common_most : (m : ℕ) → Answered InCommonRow (coefficient_after common_row m)
common_most =
    after_keeps InCommonRow common_row
    (λ x y few. record { denominator = refl; most = interpolated_most 128 common_row refl x y few })
    (record { denominator = refl; most = omega arith })
