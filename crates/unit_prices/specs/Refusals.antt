-- When a unit price or a unit contribution is refused: the conditions in their order, with the
-- refusal that each gives.
--   unit_contribution_checks   dates, tranches and price
--   unit_price_checks          these, and the coefficient
use Rattle.std.specs.Prelude.{ℕ, ◌&&◌, List, [], ◌∷◌, ◌++◌, is_none}
use Rattle.refusal.specs.Checks.{Check, ◌⇒◌}
use Rattle.refusal.specs.declared.Refusal.TheVariants.{NoPrice, NoCoefficient}
use Rattle.checks.specs.Numbers.{date_check, rate_check}
use Rattle.tariff.specs.Meaning.{Meaning}
use Rattle.tariff.specs.declared.kinds.Kind.{Kind}
use Rattle.unit_prices.specs.Prices.{earlier}

-- 2: one of the dates is no date; 6: tranches outside 1 to 20; 14: no price.
abbrev pub unit_contribution_checks : Meaning → Kind → ℕ → ℕ → ℕ → List Check
unit_contribution_checks m kind installed date k =
    date_check installed ∷
    date_check date ∷
    rate_check k ∷
    (is_none (m.price kind installed) ⇒ NoPrice) ∷ []

-- The same, and 15: installed on an earlier day, and no coefficient.
abbrev pub unit_price_checks : Meaning → Kind → ℕ → ℕ → ℕ → List Check
unit_price_checks m kind installed date k =
    unit_contribution_checks m kind installed date k ++
    (earlier installed date && is_none (m.coefficient installed date) ⇒ NoCoefficient) ∷ []
