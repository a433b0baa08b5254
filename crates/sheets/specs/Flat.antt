-- The flat sheet: three prices on every date, the common row, five-down.
use Rattle.tariff.specs.Meaning.{Meaning}
use Rattle.sheet_parts.specs.Rounding.{five_down}
use Rattle.sheet_parts.specs.Row.{common_row, by_row}
use Rattle.sheet_parts.specs.Sheet.{on_every_date, sheet_of}
use Rattle.sheet_parts.specs.declared.given.Prices.{Prices}
use Rattle.sheet_parts.specs.declared.given.Terms.{Terms}
use Rattle.sheets.specs.declared.flat.FlatSheet.{FlatSheet}

-- What a flat sheet of some prices and terms answers.
abbrev pub flat : Prices → Terms → Meaning
flat prices terms = sheet_of (on_every_date prices) (by_row common_row) five_down terms

abbrev pub flat_meaning : FlatSheet → Meaning
flat_meaning sheet = flat sheet.prices sheet.terms
