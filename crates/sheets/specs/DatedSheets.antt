-- The dated sheet: the prices in force on the installation date, the common row, five-up.
use Rattle.std.specs.Prelude.{ℕ, List, Option}
use Rattle.std.specs.Option.{option_map}
use Rattle.series.specs.Lookups.{in_force_on}
use Rattle.series.specs.Lent.{rows_of}
use Rattle.series.specs.declared.rows.Dated.{Dated}
use Rattle.tariff.specs.Meaning.{Meaning}
use Rattle.sheet_parts.specs.Rounding.{five_up}
use Rattle.sheet_parts.specs.Row.{common_row, by_row}
use Rattle.sheet_parts.specs.Given.{price_of}
use Rattle.sheet_parts.specs.Sheet.{sheet_of}
use Rattle.tariff.specs.declared.kinds.Kind.{Kind}
use Rattle.sheet_parts.specs.declared.given.Prices.{Prices}
use Rattle.sheet_parts.specs.declared.given.Terms.{Terms}
use Rattle.sheets.specs.declared.dated.DatedSheet.{DatedSheet}

-- The price in force on the installation date, none before the first record.
abbrev pub recorded : List (Dated Prices) → Kind → ℕ → Option ℕ
recorded records kind installed = option_map (λ p. price_of p kind) (in_force_on records installed)

-- What a dated sheet of some price records and terms answers.
abbrev pub dated : List (Dated Prices) → Terms → Meaning
dated records terms = sheet_of (recorded records) (by_row common_row) five_up terms

abbrev pub dated_meaning : DatedSheet → Meaning
dated_meaning sheet = dated (rows_of sheet.prices) sheet.terms
