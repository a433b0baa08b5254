-- The indexed sheet keeps the limits of the five answers.
use Rattle.std.specs.Prelude.{Some, None, Option}
use Rattle.std.proofs.lemmas.Bool.{cond_both}
use Rattle.series.specs.Lookups.{in_force_before}
use Rattle.series.specs.declared.limits.IndexNumber.{IndexNumber}
use Rattle.series.specs.Lent.{rows_of}
use Rattle.tariff.specs.Meaning.{Answered, CoefficientLimits, Lawful}
use Rattle.sheet_parts.specs.Rounding.{five_down}
use Rattle.sheet_parts.specs.Nearness.{near_five_down}
use Rattle.sheet_parts.specs.Row.{common_row, by_row}
use Rattle.sheet_parts.specs.RowLimits.{coefficient_fits, coefficient_limits}
use Rattle.sheet_parts.specs.Sheet.{on_every_date}
use Rattle.sheet_parts.specs.GivenLimits.{prices_limits}
use Rattle.sheet_parts.specs.SheetLimits.{sheet_lawful}
use Rattle.sheets.specs.Indexing.{if_fits, times, smaller, wage_ratio, consumer_ratio, row_times, indexed_by, indexed_coefficient}
use Rattle.sheets.specs.IndexedSheets.{indexed_meaning}
use Rattle.tariff.specs.declared.kinds.Coefficient.{Coefficient}
use Rattle.sheets.specs.declared.indexed.IndexedSheet.{IndexedSheet}

if_fits_limits : (c : Coefficient) → Answered CoefficientLimits (if_fits c)
if_fits_limits c =
    cond_both (coefficient_fits c) (Some c) None (Answered CoefficientLimits)
    (λ fits. coefficient_limits c fits) (λ _. tt)

times_limits : (row : Option Coefficient) (ratio : Coefficient)
    → Answered CoefficientLimits (row_times row ratio)
times_limits None ratio = tt
times_limits (Some row) ratio = if_fits_limits (times row ratio)

by_limits : (row : Option Coefficient) (w v c d : Option IndexNumber)
    → Answered CoefficientLimits (indexed_by row w v c d)
by_limits row None v c d = tt
by_limits row (Some w) None c d = tt
by_limits row (Some w) (Some v) None d = tt
by_limits row (Some w) (Some v) (Some c) None = tt
by_limits row (Some w) (Some v) (Some c) (Some d) =
    times_limits row (smaller (wage_ratio w v) (consumer_ratio c d))

pub indexed_lawful : (sheet : IndexedSheet) → Lawful (indexed_meaning sheet)
indexed_lawful sheet =
    let wages = rows_of sheet.wages in
    let consumer = rows_of sheet.consumer in
    let price = on_every_date sheet.prices in
    sheet_lawful price (indexed_coefficient wages consumer) five_down sheet.terms (record {
      prices = λ kind installed. prices_limits sheet.prices kind sheet.prices_fit;
      coefficients = λ installed receipt.
          by_limits (by_row common_row installed receipt)
          (in_force_before wages installed) (in_force_before wages receipt)
          (in_force_before consumer installed) (in_force_before consumer receipt);
      near = near_five_down;
      given = sheet.terms_fit;
    })
