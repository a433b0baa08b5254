-- What a sheet is given when it is made, and its limits.
--   prices_in_limits  each price is from 1 to 500,000,000 micro-euros
--   terms_in_limits   the contribution is at most 100 hundredths, and each weight at most 200
--   making            a sheet is made, or refused
use Rattle.std.specs.Prelude.{ℕ, Bool, not, ◌&&◌, [], ◌∷◌, Result, nat_le}
use Rattle.refusal.specs.Checks.{◌⇒◌, first, unless}
use Rattle.refusal.specs.declared.Refusal.{Refusal}
use Rattle.refusal.specs.declared.Refusal.TheVariants.{BadSheet}
use Rattle.calendar.specs.Days.{within}
use Rattle.tariff.specs.Bounds.{most_price, whole, most_year_weight}
use Rattle.tariff.specs.Most.{all_at_most}
use Rattle.tariff.specs.declared.kinds.Kind.{Kind}
use Rattle.tariff.specs.declared.kinds.Kind.TheVariants.{Covered, Connectable, ThirdParty}
use Rattle.sheet_parts.specs.declared.given.Prices.{Prices}
use Rattle.sheet_parts.specs.declared.given.Terms.{Terms}

abbrev pub price_of : Prices → Kind → ℕ
price_of p Covered = p.covered
price_of p Connectable = p.connectable
price_of p ThirdParty = p.third

abbrev pub price_fits : ℕ → Bool
price_fits price = within 1 price most_price

abbrev pub prices_in_limits : Prices → Bool
prices_in_limits p = price_fits p.covered && (price_fits p.connectable && price_fits p.third)

abbrev pub terms_in_limits : Terms → Bool
terms_in_limits t = nat_le t.contribution whole && all_at_most most_year_weight t.weights

-- A sheet is made of what is within its limits, and of nothing else.
abbrev pub making : Bool → Result (Unit {0}) Refusal
making fits = unless (first ((not fits ⇒ BadSheet) ∷ [])) tt
