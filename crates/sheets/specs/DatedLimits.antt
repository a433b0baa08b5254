-- The dated sheet keeps the limits of the five answers.
use Rattle.std.specs.Prelude.{ℕ, Some, None, Option, nat_le}
use Rattle.std.specs.Option.{option_map}
use Rattle.calendar.specs.Days.{months_between}
use Rattle.series.specs.Lookups.{in_force_on}
use Rattle.series.specs.Lent.{rows_of}
use Rattle.series.specs.Found.{Keeps, kept_found}
use Rattle.tariff.specs.Meaning.{Answered, PriceLimits, Lawful}
use Rattle.sheet_parts.specs.Rounding.{five_up}
use Rattle.sheet_parts.specs.Nearness.{near_five_up}
use Rattle.sheet_parts.specs.Row.{common_row, by_row}
use Rattle.sheet_parts.specs.RowLimits.{common_limits}
use Rattle.sheet_parts.specs.Given.{price_of, prices_in_limits}
use Rattle.sheet_parts.specs.GivenLimits.{prices_limits}
use Rattle.sheet_parts.specs.SheetLimits.{sheet_lawful}
use Rattle.sheets.specs.DatedSheets.{recorded, dated_meaning}
use Rattle.tariff.specs.declared.kinds.Kind.{Kind}
use Rattle.sheet_parts.specs.declared.given.Prices.{Prices}
use Rattle.sheets.specs.declared.dated.DatedSheet.{DatedSheet}

found_limits : (found : Option Prices) (kind : Kind) → Keeps prices_in_limits found
    → Answered PriceLimits (option_map (λ p. price_of p kind) found)
found_limits None kind fits = tt
found_limits (Some p) kind fits = prices_limits p kind fits

pub dated_lawful : (sheet : DatedSheet) → Lawful (dated_meaning sheet)
dated_lawful sheet =
    let records = rows_of sheet.prices in
    sheet_lawful (recorded records) (by_row common_row) five_up sheet.terms (record {
      prices = λ kind installed.
          let dated_by = λ (date : ℕ). nat_le date installed in
          let kept = kept_found prices_in_limits dated_by records sheet.prices.fit in
          found_limits (in_force_on records installed) kind kept;
      coefficients = λ installed receipt. common_limits (months_between installed receipt);
      near = near_five_up;
      given = sheet.terms_fit;
    })
