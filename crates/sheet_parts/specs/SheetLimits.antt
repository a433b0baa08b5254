-- A sheet keeps the limits of the five answers if its parts keep theirs.
use Rattle.std.specs.Prelude.{◌≡◌, ℕ, ◌<◌, true, Option}
use Rattle.tariff.specs.Meaning.{Answered, PriceLimits, CoefficientLimits, Near, Lawful}
use Rattle.sheet_parts.specs.Given.{terms_in_limits}
use Rattle.sheet_parts.specs.GivenLimits.{contribution_limit, weight_limit}
use Rattle.sheet_parts.specs.Sheet.{sheet_of}
use Rattle.tariff.specs.declared.kinds.Kind.{Kind}
use Rattle.tariff.specs.declared.kinds.Coefficient.{Coefficient}
use Rattle.sheet_parts.specs.declared.given.Terms.{Terms}

module _ (price : Kind → ℕ → Option ℕ) (coefficient : ℕ → ℕ → Option Coefficient)
    (rounded : ℕ → ℕ → ℕ) (terms : Terms) where
  -- whatever the dates are, and at every fraction
  pub record PartsFit : Type 0 where
    pub prices : (kind : Kind) (installed : ℕ) → Answered PriceLimits (price kind installed)
    pub coefficients : (installed receipt : ℕ) →
        Answered CoefficientLimits (coefficient installed receipt)
    pub near : (n d : ℕ) → 0 < d → Near n d (rounded n d)
    pub given : terms_in_limits terms ≡ true

  pub sheet_lawful : PartsFit → Lawful (sheet_of price coefficient rounded terms)
  sheet_lawful fit = record {
    prices = λ kind installed _. fit.prices kind installed;
    coefficients = λ installed receipt _ _. fit.coefficients installed receipt;
    contributions = contribution_limit terms fit.given;
    weights = λ index _. weight_limit terms fit.given index;
    near = λ n d _ some _. fit.near n d some;
  }
