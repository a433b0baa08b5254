-- What is in force, by the rows of a series.
--   last_value       the value of the last row whose date passes a test
--   in_force_on      the last value dated up to a day
--   in_force_before  the last value dated earlier
use Rattle.std.specs.Prelude.{ℕ, Bool, cond, List, [], ◌∷◌, Some, None, Option, nat_le, nat_lt}
use Rattle.series.specs.declared.rows.Dated.{Dated}

-- The first of two answers, or the second where the first is absent.
abbrev pub or_else : {V : Type 0} → Option V → Option V → Option V
or_else (Some v) other = Some v
or_else None other = other

-- The value of the last row whose date passes a test, if one does.
abbrev pub last_value : {V : Type 0} → (ℕ → Bool) → List (Dated V) → Option V
last_value passes [] = None
last_value passes (row ∷ rows) =
    or_else (last_value passes rows) (cond (passes row.date) (Some row.value) None)

-- In force on a day is the last value dated up to that day.
abbrev pub in_force_on : {V : Type 0} → List (Dated V) → ℕ → Option V
in_force_on rows day = last_value (λ date. nat_le date day) rows

-- In force before a day is the last value dated earlier.
abbrev pub in_force_before : {V : Type 0} → List (Dated V) → ℕ → Option V
in_force_before rows day = last_value (λ date. nat_lt date day) rows
