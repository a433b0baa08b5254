-- The limits of a zone, each named once. Those of a single operator or object stand with the checks
-- of single numbers.
--   most_operators, most_objects    what a zone can count
--   most_index, years               the last year index, and how many there are from 0
--   most_amount                     of a balance, a total or a count
--   most_after_share_out            where a share-out leads to from any accepted tables
use Rattle.std.specs.Prelude.{ℕ}

abbrev pub most_operators : ℕ
most_operators = 16

abbrev pub most_objects : ℕ
most_objects = 1024

abbrev pub most_index : ℕ
most_index = 40

abbrev pub years : ℕ
years = 41

abbrev pub most_amount : ℕ
most_amount = 4000000000000000000

abbrev pub most_after_share_out : ℕ
most_after_share_out = 5000000000000000000

-- What follows from them and from the limits of unit prices.
--   most_contribution      of an object: that of 10,000 dwellings
--   most_weight            of an operator: 20 tranches at a weight of 200
--   most_whole_weight      of 16 operators
--   most_contributed       by one event: 1,024 objects
--   most_credited          by one event: 16 operators get at most the whole of it each
--   most_credit_lines      of one share-out
abbrev pub most_contribution : ℕ
most_contribution = 100000000000000

abbrev pub most_weight : ℕ
most_weight = 4000

abbrev pub most_whole_weight : ℕ
most_whole_weight = 64000

abbrev pub most_contributed : ℕ
most_contributed = 102400000000000000

abbrev pub most_credited : ℕ
most_credited = 1638400000000000000

abbrev pub most_credit_lines : ℕ
most_credit_lines = 16384
