-- The flat sheet keeps the limits of the five answers.
use Rattle.calendar.specs.Days.{months_between}
use Rattle.tariff.specs.Meaning.{Lawful}
use Rattle.sheet_parts.specs.Rounding.{five_down}
use Rattle.sheet_parts.specs.Nearness.{near_five_down}
use Rattle.sheet_parts.specs.Row.{common_row, by_row}
use Rattle.sheet_parts.specs.RowLimits.{common_limits}
use Rattle.sheet_parts.specs.Sheet.{on_every_date}
use Rattle.sheet_parts.specs.GivenLimits.{prices_limits}
use Rattle.sheet_parts.specs.SheetLimits.{sheet_lawful}
use Rattle.sheets.specs.Flat.{flat_meaning}
use Rattle.sheets.specs.declared.flat.FlatSheet.{FlatSheet}

pub flat_lawful : (sheet : FlatSheet) → Lawful (flat_meaning sheet)
flat_lawful sheet =
    sheet_lawful (on_every_date sheet.prices) (by_row common_row) five_down sheet.terms (record {
      prices = λ kind installed. prices_limits sheet.prices kind sheet.prices_fit;
      coefficients = λ installed receipt. common_limits (months_between installed receipt);
      near = near_five_down;
      given = sheet.terms_fit;
    })
