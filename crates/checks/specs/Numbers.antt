-- The checks of single numbers, each with the refusal that it gives, and their limits.
--   most_tranches, most_dwellings   of one operator, of one object
use Rattle.std.specs.Prelude.{ℕ, Bool, not, nat_eq}
use Rattle.refusal.specs.Checks.{Check, ◌⇒◌}
use Rattle.refusal.specs.declared.Refusal.TheVariants.{NoDate, NoOperator, RateOutOfRange, ObjectUnusable, DwellingsOutOfRange}
use Rattle.calendar.specs.Days.{is_date, within}

abbrev pub most_tranches : ℕ
most_tranches = 20

abbrev pub most_dwellings : ℕ
most_dwellings = 10000

-- 2: a date is no real day.
abbrev pub date_check : ℕ → Check
date_check date = not (is_date date) ⇒ NoDate

-- 5: an operator's number is 0.
abbrev pub operator_check : ℕ → Check
operator_check operator = nat_eq operator 0 ⇒ NoOperator

-- 6: a rate is outside 1 to 20.
abbrev pub bad_rate : ℕ → Bool
bad_rate rate = not (within 1 rate most_tranches)

abbrev pub rate_check : ℕ → Check
rate_check rate = bad_rate rate ⇒ RateOutOfRange

-- 11, in part: an object's number is 0.
abbrev pub object_check : ℕ → Check
object_check object = nat_eq object 0 ⇒ ObjectUnusable

-- 12: dwellings are outside 1 to 10,000.
abbrev pub bad_dwellings : ℕ → Bool
bad_dwellings dwellings = not (within 1 dwellings most_dwellings)

abbrev pub dwellings_check : ℕ → Check
dwellings_check dwellings = bad_dwellings dwellings ⇒ DwellingsOutOfRange
