-- What a price sheet means: its answers to the five questions, and the limits that they keep.
--   Meaning   all the answers of a sheet, in one fixed value
--   Near      a whole number that misses a fraction by less than one
--   Lawful    the limits of all five answers
use Rattle.std.specs.Prelude.{ℕ, ◌+◌, ◌*◌, ◌<◌, ◌≤◌, T, Some, None, Option}
use Rattle.calendar.specs.Days.{is_date}
use Rattle.tariff.specs.Bounds.{most_price, most_numerator, most_denominator, most_coefficient, whole, last_index, most_year_weight, most_rounded}
use Rattle.tariff.specs.declared.kinds.Kind.{Kind}
use Rattle.tariff.specs.declared.kinds.Coefficient.{Coefficient}

pub record Meaning : Type 0 where
  pub price : Kind → ℕ → Option ℕ
  pub coefficient : ℕ → ℕ → Option Coefficient
  pub contribution : ℕ
  pub weight : ℕ → ℕ
  pub rounded : ℕ → ℕ → ℕ

-- P of the answer, where there is one.
abbrev pub Answered : {A : Type 0} → (A → Type 0) → Option A → Type 0
Answered P None = Unit {0}
Answered P (Some a) = P a

-- A price is 1 to 500,000,000 micro-euros.
pub record PriceLimits (price : ℕ) : Type 0 where
  pub some : 0 < price
  pub most : price ≤ most_price

-- A coefficient has a denominator of 1 to 240,000,000, a numerator of at most 480,000,000, and is
-- at most 4.
pub record CoefficientLimits (c : Coefficient) : Type 0 where
  pub some : 0 < c.denominator
  pub small : c.denominator ≤ most_denominator
  pub most : c.numerator ≤ most_numerator
  pub four : c.numerator ≤ most_coefficient * c.denominator

-- The whole number r times the denominator misses the numerator by less than the denominator.
pub record Near (numerator denominator r : ℕ) : Type 0 where
  pub over : r * denominator < numerator + denominator
  pub under : numerator < r * denominator + denominator

-- The limits of the five answers. Price and coefficient are asked at real dates.
pub record Lawful (m : Meaning) : Type 0 where
  pub prices : (kind : Kind) (installed : ℕ) → T (is_date installed) →
      Answered PriceLimits (m.price kind installed)
  pub coefficients : (installed receipt : ℕ) → T (is_date installed) → T (is_date receipt) →
      Answered CoefficientLimits (m.coefficient installed receipt)
  pub contributions : m.contribution ≤ whole
  pub weights : (index : ℕ) → index ≤ last_index → m.weight index ≤ most_year_weight
  pub near : (n d : ℕ) → n ≤ most_rounded → 0 < d → d ≤ most_denominator →
      Near n d (m.rounded n d)
