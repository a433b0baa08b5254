-- How far each of the five answers may go.
use Rattle.std.specs.Prelude.{ℕ}

-- The dearest price per tranche and dwelling, in micro-euros.
abbrev pub most_price : ℕ
most_price = 500000000

-- The largest numerator of a coefficient.
abbrev pub most_numerator : ℕ
most_numerator = 480000000

-- The largest denominator of a coefficient, and of an amount that is rounded.
abbrev pub most_denominator : ℕ
most_denominator = 240000000

-- The largest value of a coefficient.
abbrev pub most_coefficient : ℕ
most_coefficient = 4

-- The whole of a price, in hundredths.
abbrev pub whole : ℕ
whole = 100

-- The last year index of a subscription.
abbrev pub last_index : ℕ
last_index = 40

-- What a tranche weighs at most.
abbrev pub most_year_weight : ℕ
most_year_weight = 200

-- The largest numerator of an amount that is rounded.
abbrev pub most_rounded : ℕ
most_rounded = 9000000000000000000
