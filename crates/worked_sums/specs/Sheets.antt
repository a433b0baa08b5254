-- Sheets for the examples: 6.91, 18.77 and 16.20 euros, the common row, given contribution, weights
-- and rounding.
use Rattle.std.specs.Prelude.{ℕ, cond, Some, None, Option, ◌==◌}
use Rattle.calendar.specs.Days.{year}
use Rattle.tariff.specs.Meaning.{Meaning}
use Rattle.tariff.specs.declared.kinds.Kind.{Kind}
use Rattle.tariff.specs.declared.kinds.Kind.TheVariants.{Covered, Connectable, ThirdParty}
use Rattle.sheet_parts.specs.Row.{common_row, by_row}
use Rattle.sheet_parts.specs.Rounding.{five_up, five_down}

-- One price for each kind, whatever the date.
abbrev pub flat_price : Kind → ℕ
flat_price Covered = 6910000
flat_price Connectable = 18770000
flat_price ThirdParty = 16200000

abbrev pub flat_sheet : ℕ → (ℕ → ℕ) → (ℕ → ℕ → ℕ) → Meaning
flat_sheet contribution weight rounded = record {
  price = λ kind installed. Some (flat_price kind);
  coefficient = by_row common_row;
  contribution = contribution;
  weight = weight;
  rounded = rounded;
}

-- Contribution 15, every weight 100, and either rounding.
abbrev pub sheet_up : Meaning
sheet_up = flat_sheet 15 (λ index. 100) five_up

abbrev pub sheet_down : Meaning
sheet_down = flat_sheet 15 (λ index. 100) five_down

-- The same with another contribution.
abbrev pub sheet_of : ℕ → Meaning
sheet_of contribution = flat_sheet contribution (λ index. 100) five_up

-- The same with no price for connectable objects and no coefficient for those of 2018.
abbrev pub holed_price : Kind → Option ℕ
holed_price Covered = Some 6910000
holed_price Connectable = None
holed_price ThirdParty = Some 16200000

abbrev pub holed_sheet : (ℕ → ℕ → ℕ) → Meaning
holed_sheet rounded = record {
  price = λ kind installed. holed_price kind;
  coefficient = λ installed receipt.
      cond (year installed == 2018) None (by_row common_row installed receipt);
  contribution = 15;
  weight = λ index. 100;
  rounded = rounded;
}
