-- The rows of a dated series, and when they make one.
--   real           every date is a calendar day
--   rising         every date is later than the one before it
--   within_limits  every value keeps the limits of its kind
--   sound          the rows make a series
use Rattle.std.specs.Prelude.{ℕ, Bool, true, ◌&&◌, List, [], ◌∷◌, length, nat_le, nat_lt}
use Rattle.std.specs.List.{list_all}
use Rattle.calendar.specs.Days.{is_date}
use Rattle.series.specs.declared.rows.Dated.{Dated}

-- A series holds up to 512 rows.
abbrev pub most_rows : ℕ
most_rows = 512

-- Every date is a calendar day.
abbrev pub real : {V : Type 0} → List (Dated V) → Bool
real rows = list_all (λ row. is_date row.date) rows

-- Every date is later than the one before it.
abbrev pub rising : {V : Type 0} → List (Dated V) → Bool
rising [] = true
rising (row ∷ []) = true
rising (row ∷ (next ∷ rows)) = nat_lt row.date next.date && rising (next ∷ rows)

-- Every value keeps the limits of its kind.
abbrev pub within_limits : {V : Type 0} → (V → Bool) → List (Dated V) → Bool
within_limits fits rows = list_all (λ row. fits row.value) rows

-- Rows make a series if there are not too many, their dates are real and rise, and their values
-- keep their limits.
abbrev pub sound : {V : Type 0} → (V → Bool) → List (Dated V) → Bool
sound fits rows =
    nat_le (length rows) most_rows && (real rows && (rising rows && within_limits fits rows))
