-- The indexed sheet: three prices on every date, the row times the smaller rise of two indices,
-- five-down.
use Rattle.std.specs.Prelude.{List}
use Rattle.series.specs.Lent.{rows_of}
use Rattle.series.specs.declared.rows.Dated.{Dated}
use Rattle.series.specs.declared.limits.IndexNumber.{IndexNumber}
use Rattle.tariff.specs.Meaning.{Meaning}
use Rattle.sheet_parts.specs.Rounding.{five_down}
use Rattle.sheet_parts.specs.Sheet.{on_every_date, sheet_of}
use Rattle.sheets.specs.Indexing.{indexed_coefficient}
use Rattle.sheet_parts.specs.declared.given.Prices.{Prices}
use Rattle.sheet_parts.specs.declared.given.Terms.{Terms}
use Rattle.sheets.specs.declared.indexed.IndexedSheet.{IndexedSheet}

-- What an indexed sheet of some prices, terms, wages and consumer prices answers.
abbrev pub indexed : Prices → Terms → List (Dated IndexNumber) → List (Dated IndexNumber) → Meaning
indexed prices terms wages consumer =
    sheet_of (on_every_date prices) (indexed_coefficient wages consumer) five_down terms

abbrev pub indexed_meaning : IndexedSheet → Meaning
indexed_meaning sheet =
    indexed sheet.prices sheet.terms (rows_of sheet.wages) (rows_of sheet.consumer)
