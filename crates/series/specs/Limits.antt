-- The limits of the values that series hold.
--   index_fits  a lawful index number
use Rattle.std.specs.Prelude.{ℕ, Bool}
use Rattle.calendar.specs.Days.{within}
use Rattle.series.specs.declared.limits.IndexNumber.{IndexNumber}

-- An index number is 1 to 50,000.
abbrev pub most_index_number : ℕ
most_index_number = 50000

abbrev pub index_fits : IndexNumber → Bool
index_fits n = within 1 n.0 most_index_number
