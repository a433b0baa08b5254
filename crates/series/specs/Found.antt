-- A value that is found keeps the limits that all values of its series keep.
--   Keeps         an answer is absent, or a value within the limits
--   KeepsLimits   whatever the rows keep, an answer keeps
--   kept_found    every look-up does
use Rattle.std.specs.Prelude.{◌≡◌, ℕ, Bool, true, false, cond, List, [], ◌∷◌, Some, None, Option}
use Rattle.std.proofs.lemmas.Bool.{and_parts}
use Rattle.series.specs.declared.rows.Dated.{Dated}
use Rattle.series.specs.Rows.{within_limits}
use Rattle.series.specs.Lookups.{or_else, last_value}

-- An answer keeps the limits if it is absent or a value within them.
abbrev pub Keeps : {V : Type 0} → (V → Bool) → Option V → Type 0
Keeps fits None = Unit {0}
Keeps fits (Some v) = fits v ≡ true

-- Whatever limits every value of the rows keeps, the answer keeps.
abbrev pub KeepsLimits : {V : Type 0} → List (Dated V) → Option V → Type 0
KeepsLimits {V} rows answer =
    (fits : V → Bool) → within_limits fits rows ≡ true → Keeps fits answer

either_keeps : {V : Type 0} (fits : V → Bool) (o other : Option V)
    → Keeps fits o → Keeps fits other → Keeps fits (or_else o other)
either_keeps fits None other h k = k
either_keeps fits (Some v) other h k = h

own_keeps : {V : Type 0} (fits : V → Bool) (passes : Bool) (v : V)
    → fits v ≡ true → Keeps fits (cond passes (Some v) None)
own_keeps fits true v h = h
own_keeps fits false v h = tt

pub kept_found : {V : Type 0} (fits : V → Bool) (passes : ℕ → Bool) (rows : List (Dated V))
    → within_limits fits rows ≡ true → Keeps fits (last_value passes rows)
kept_found fits passes [] h = tt
kept_found fits passes (row ∷ rows) h =
    let parts = and_parts (fits row.value) (within_limits fits rows) h in
    either_keeps fits (last_value passes rows) (cond (passes row.date) (Some row.value) None)
    (kept_found fits passes rows parts.1)
    (own_keeps fits (passes row.date) row.value parts.0)
