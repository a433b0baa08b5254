-- The coefficient of the indexed sheet: the common row times the smaller rise of wages or of
-- consumer prices.
--   wage_ratio           wages a quarter as then and three quarters as now, against then
--   consumer_ratio       consumer prices now against then
--   smaller              the smaller of two fractions, the first where they are equal
--   indexed_coefficient  the whole, none where an index number is absent or the product passes the
--                        tariff's limits
use Rattle.std.specs.Prelude.{ℕ, ◌+◌, ◌*◌, ◌<◌, ◌≤◌, cond, List, Some, None, Option, nat_le}
use Rattle.series.specs.Lookups.{in_force_before}
use Rattle.series.specs.declared.rows.Dated.{Dated}
use Rattle.series.specs.declared.limits.IndexNumber.{IndexNumber}
use Rattle.sheet_parts.specs.Row.{common_row, by_row}
use Rattle.sheet_parts.specs.RowLimits.{coefficient_fits}
use Rattle.tariff.specs.declared.kinds.Coefficient.{Coefficient}

abbrev pub wage_ratio : IndexNumber → IndexNumber → Coefficient
wage_ratio then now = record { numerator = then.0 + 3 * now.0; denominator = 4 * then.0 }

abbrev pub consumer_ratio : IndexNumber → IndexNumber → Coefficient
consumer_ratio then now = record { numerator = now.0; denominator = then.0 }

-- Compared exactly, crosswise.
abbrev pub smaller : Coefficient → Coefficient → Coefficient
smaller a b = cond (nat_le (a.numerator * b.denominator) (b.numerator * a.denominator)) a b

-- The product of two fractions, unreduced.
abbrev pub times : Coefficient → Coefficient → Coefficient
times a b =
    record { numerator = a.numerator * b.numerator; denominator = a.denominator * b.denominator }

-- A fraction outside the tariff's limits is no coefficient.
abbrev pub if_fits : Coefficient → Option Coefficient
if_fits c = cond (coefficient_fits c) (Some c) None

-- The row's coefficient times a ratio; none where the row has none.
abbrev pub row_times : Option Coefficient → Coefficient → Option Coefficient
row_times None ratio = None
row_times (Some row) ratio = if_fits (times row ratio)

-- The row's coefficient times the smaller ratio; none where an index number is absent.
abbrev pub indexed_by : Option Coefficient →
    Option IndexNumber → Option IndexNumber → Option IndexNumber → Option IndexNumber →
    Option Coefficient
indexed_by row None wages_now consumer_then consumer_now = None
indexed_by row (Some wages_then) None consumer_then consumer_now = None
indexed_by row (Some wages_then) (Some wages_now) None consumer_now = None
indexed_by row (Some wages_then) (Some wages_now) (Some consumer_then) None = None
indexed_by row (Some wages_then) (Some wages_now) (Some consumer_then) (Some consumer_now) =
    let by_wages = wage_ratio wages_then wages_now in
    let by_prices = consumer_ratio consumer_then consumer_now in
    row_times row (smaller by_wages by_prices)

-- Then and now are the index numbers in force before the installation and before the receipt.
abbrev pub indexed_coefficient : List (Dated IndexNumber) → List (Dated IndexNumber) → ℕ → ℕ →
    Option Coefficient
indexed_coefficient wages consumer installed receipt =
    indexed_by (by_row common_row installed receipt)
    (in_force_before wages installed) (in_force_before wages receipt)
    (in_force_before consumer installed) (in_force_before consumer receipt)

-- What index numbers of 1 to 50,000 make of either ratio.
pub record RatioLimits (ratio : Coefficient) : Type 0 where
  pub some : 0 < ratio.denominator
  pub small : ratio.denominator ≤ 200000
  pub most : ratio.numerator ≤ 200000
