-- What the tests on prices and terms tell of each price, the contribution and each weight.
use Rattle.std.specs.Prelude.{◌≡◌, ℕ, ◌≤◌, true, nat_le, slice_index}
use Rattle.std.proofs.lemmas.Bool.{and_parts, leb-true}
use Rattle.tariff.specs.Bounds.{most_price, whole, most_year_weight}
use Rattle.tariff.specs.Meaning.{PriceLimits}
use Rattle.tariff.specs.Most.{at_most}
use Rattle.sheet_parts.specs.Given.{price_of, price_fits, prices_in_limits, terms_in_limits}
use Rattle.tariff.specs.declared.kinds.Kind.{Kind}
use Rattle.tariff.specs.declared.kinds.Kind.TheVariants.{Covered, Connectable, ThirdParty}
use Rattle.sheet_parts.specs.declared.given.Prices.{Prices}
use Rattle.sheet_parts.specs.declared.given.Terms.{Terms}

price_limits : (price : ℕ) → price_fits price ≡ true → PriceLimits price
price_limits price fits =
    let parts = and_parts (nat_le 1 price) (nat_le price most_price) fits in
    record { some = leb-true 1 price parts.0; most = leb-true price most_price parts.1 }

last_two : (p : Prices) → prices_in_limits p ≡ true
    → (price_fits p.connectable ≡ true) × (price_fits p.third ≡ true)
last_two p fits =
    let others = (and_parts (price_fits p.covered) _ fits).1 in
    and_parts (price_fits p.connectable) (price_fits p.third) others

pub prices_limits : (p : Prices) (kind : Kind) → prices_in_limits p ≡ true
    → PriceLimits (price_of p kind)
prices_limits p Covered fits = price_limits p.covered (and_parts _ _ fits).0
prices_limits p Connectable fits = price_limits p.connectable (last_two p fits).0
prices_limits p ThirdParty fits = price_limits p.third (last_two p fits).1

pub contribution_limit : (t : Terms) → terms_in_limits t ≡ true → t.contribution ≤ whole
contribution_limit t fits = leb-true t.contribution whole (and_parts _ _ fits).0

pub weight_limit : (t : Terms) → terms_in_limits t ≡ true
    → (index : ℕ) → slice_index t.weights index ≤ most_year_weight
weight_limit t fits = at_most most_year_weight t.weights (and_parts _ _ fits).1
