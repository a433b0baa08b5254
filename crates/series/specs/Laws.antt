-- What holds of every answer, by where a day lies among the dates of a series.
--   newest          the value of the last row
--   SteadyOn        nothing changes between two neighbouring dates
--   SteadyBefore    the same of what was in force before the day
--   OwnDayOn        a value dated the day itself is in force on it
--   OwnDayBefore    and not before it
use Rattle.std.specs.Prelude.{◌≡◌, ℕ, ◌<◌, ◌≤◌, true, List, ◌∷◌, ◌++◌, Some, Option}
use Rattle.series.specs.declared.rows.Dated.{Dated}
use Rattle.series.specs.Lookups.{last_value}

-- The value of the last row, if there is a row.
abbrev pub newest : {V : Type 0} → List (Dated V) → Option V
newest rows = last_value (λ _. true) rows

-- From the date of a row up to the day before the next row's date, the answer is the value of that
-- row.
abbrev pub SteadyOn : {V : Type 0} → List (Dated V) → ℕ → Option V → Type 0
SteadyOn {V} rows day answer =
    (above below : List (Dated V)) (row next : Dated V) → rows ≡ above ++ (row ∷ (next ∷ below))
    → row.date ≤ day → day < next.date → answer ≡ Some row.value

-- From the day after the date of a row up to the next row's date, the answer is the value of that
-- row.
abbrev pub SteadyBefore : {V : Type 0} → List (Dated V) → ℕ → Option V → Type 0
SteadyBefore {V} rows day answer =
    (above below : List (Dated V)) (row next : Dated V) → rows ≡ above ++ (row ∷ (next ∷ below))
    → row.date < day → day ≤ next.date → answer ≡ Some row.value

-- Where a row is dated the day itself, the answer is its value.
abbrev pub OwnDayOn : {V : Type 0} → List (Dated V) → ℕ → Option V → Type 0
OwnDayOn {V} rows day answer =
    (above below : List (Dated V)) (row : Dated V) → rows ≡ above ++ (row ∷ below)
    → row.date ≡ day → answer ≡ Some row.value

-- Where a row is dated the day itself, the answer comes from the row above it, if there is one.
abbrev pub OwnDayBefore : {V : Type 0} → List (Dated V) → ℕ → Option V → Type 0
OwnDayBefore {V} rows day answer =
    (above below : List (Dated V)) (row : Dated V) → rows ≡ above ++ (row ∷ below)
    → row.date ≡ day → answer ≡ newest above
