-- A row of yearly coefficients, and the coefficient of any number of months by interpolation.
--   common_row         the row that sheets have in common
--   coefficient_after  the coefficient after a number of months, if there is one
use Rattle.std.specs.Prelude.{ℕ, ◌+◌, ◌-◌, ◌*◌, ◌/◌, ◌%◌, ◌<◌, ◌≤◌, min, max, cond, [], ◌∷◌, Some, Option, IsSomeAnd, nat_le, slice_index}
use Rattle.calendar.specs.Days.{months_between}
use Rattle.tariff.specs.declared.kinds.Coefficient.{Coefficient}
use Rattle.sheet_parts.specs.declared.row.Row.{Row}

-- A row has a year every twelve months, up to 240.
abbrev pub last_month : ℕ
last_month = 240

-- A coefficient in 1,200ths: twelve months of hundredths.
abbrev pub in_1200ths : ℕ → Coefficient
in_1200ths n = record { numerator = n; denominator = 1200 }

-- The coefficient after x whole years, in hundredths.
abbrev pub year_of : Row → ℕ → ℕ
year_of row x = slice_index row.years x

-- After x years and y months, 12−y parts of the year x and y parts of the year after it, in
-- 1,200ths.
abbrev pub interpolated : Row → ℕ → ℕ → ℕ
interpolated row x y = (12 - y) * year_of row x + y * year_of row (x + 1)

-- Up to the last year straight between two years; beyond it, what the row says.
unfoldable pub coefficient_after : Row → ℕ → Option Coefficient
coefficient_after row m =
    cond (nat_le m last_month) (Some (in_1200ths (interpolated row (m / 12) (m % 12)))) row.beyond

-- The coefficient of an object by the months between its installation and the receipt.
abbrev pub by_row : Row → ℕ → ℕ → Option Coefficient
by_row row installed receipt = coefficient_after row (months_between installed receipt)

-- The common row stays at 300/1,200 from 240 months on.
abbrev pub common_row : Row
common_row = record {
  years = 100 ∷ 110 ∷ 118 ∷ 125 ∷ 127 ∷ 128 ∷ 127 ∷ 125 ∷ 122 ∷ 118 ∷ 112 ∷ 106 ∷ 98 ∷ 90 ∷
      81 ∷ 70 ∷ 59 ∷ 46 ∷ 32 ∷ 25 ∷ 25 ∷ [];
  beyond = Some (in_1200ths 300);
}

-- Between two numbers, whichever is the larger.
pub record Between (a n b : ℕ) : Type 0 where
  pub low : min a b ≤ n
  pub high : n ≤ max a b

-- Before the last year there is a coefficient. It lies between those of the years before and after
-- it, a hundredth being 12 parts in 1,200.
abbrev pub BetweenItsYears : Row → ℕ → Option Coefficient → Type 0
BetweenItsYears row m answer =
    let year = m / 12 in
    let before = 12 * year_of row year in
    let after = 12 * year_of row (year + 1) in
    m < last_month → IsSomeAnd answer (λ c. Between before c.numerator after)
