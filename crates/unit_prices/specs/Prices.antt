-- What a dwelling costs, and what it contributes.
--   price_at            the price per tranche and dwelling
--   coefficient_at      the coefficient of two days
--   earlier             whether something stood before a day
--   unit_price          what a dwelling costs for k tranches, by its kind and both days
--   unit_contribution   what of it goes to the earlier operators
use Rattle.std.specs.Option.{unwrap_or}
use Rattle.std.specs.Prelude.{ℕ, ◌*◌, Bool, cond, nat_lt}
use Rattle.tariff.specs.Meaning.{Meaning}
use Rattle.tariff.specs.declared.kinds.Kind.{Kind}
use Rattle.tariff.specs.declared.kinds.Coefficient.{Coefficient}

-- The price per tranche and dwelling; 0 where the sheet has none, which no accepted call meets.
abbrev pub price_at : Meaning → Kind → ℕ → ℕ
price_at m kind installed = unwrap_or (m.price kind installed) 0

-- The coefficient of two days; 0 where the sheet has none, which no accepted call meets.
abbrev pub coefficient_at : Meaning → ℕ → ℕ → Coefficient
coefficient_at m installed date =
    unwrap_or (m.coefficient installed date) (record { numerator = 0; denominator = 1 })

-- Whether something stood before a day.
abbrev pub earlier : ℕ → ℕ → Bool
earlier installed date = nat_lt installed date

-- Installed on an earlier day, price × k × coefficient, rounded; else price × k.
abbrev pub unit_price : Meaning → Kind → ℕ → ℕ → ℕ → ℕ
unit_price m kind installed date k =
    cond (earlier installed date)
    (m.rounded
    (price_at m kind installed * k * (coefficient_at m installed date).numerator)
    (coefficient_at m installed date).denominator)
    (price_at m kind installed * k)

-- Installed on an earlier day, price × k × hundredths / 100, rounded; else nothing.
abbrev pub unit_contribution : Meaning → Kind → ℕ → ℕ → ℕ → ℕ
unit_contribution m kind installed date k =
    cond (earlier installed date) (m.rounded (price_at m kind installed * k * m.contribution) 100) 0
