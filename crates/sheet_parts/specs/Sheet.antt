-- What a sheet answers: by its prices, its coefficients, its rounding, and the terms that it is
-- given.
--   on_every_date  prices that are the same on every date
--   sheet_of       all the answers of a sheet
use Rattle.std.specs.Prelude.{ℕ, Some, Option, slice_index}
use Rattle.tariff.specs.Meaning.{Meaning}
use Rattle.tariff.specs.declared.kinds.Kind.{Kind}
use Rattle.tariff.specs.declared.kinds.Coefficient.{Coefficient}
use Rattle.sheet_parts.specs.Given.{price_of}
use Rattle.sheet_parts.specs.declared.given.Prices.{Prices}
use Rattle.sheet_parts.specs.declared.given.Terms.{Terms}

abbrev pub on_every_date : Prices → Kind → ℕ → Option ℕ
on_every_date prices kind installed = Some (price_of prices kind)

abbrev pub sheet_of : (Kind → ℕ → Option ℕ) → (ℕ → ℕ → Option Coefficient) → (ℕ → ℕ → ℕ) → Terms
    → Meaning
sheet_of price coefficient rounded terms = record {
  price = price;
  coefficient = coefficient;
  contribution = terms.contribution;
  weight = λ index. slice_index terms.weights index;
  rounded = rounded;
}
