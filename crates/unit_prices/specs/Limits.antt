-- What follows from the most tranches of an operator and from the tariff's limits.
--   most_unit_price         of a dwelling: 20 tranches at 4 times the price
--   most_unit_contribution  of a dwelling: the whole price of 20 tranches
use Rattle.std.specs.Prelude.{ℕ}

abbrev pub most_unit_price : ℕ
most_unit_price = 40000000000

abbrev pub most_unit_contribution : ℕ
most_unit_contribution = 10000000000
