-- What a row says of the answer by its place among the others.
use Rattle.std.proofs.Common.{◌≡◌, ℕ, ◌<◌, ◌≤◌, Bool, true, false, cond, ltb, leb, List, [], ◌∷◌, ◌++◌, Some, None, Option, sym, refl, ap, ◌∙◌, arith}
use Rattle.std.specs.List.{AllByRecursion}
use Rattle.std.proofs.ByRecursion.{All-weaker}
use Rattle.std.proofs.lemmas.Bool.{le-leb, lt-leb, lt-ltb, le-ltb}
use Rattle.series.specs.declared.rows.Dated.{Dated}
use Rattle.series.specs.Rows.{rising}
use Rattle.series.specs.Lookups.{or_else, last_value, in_force_on, in_force_before}
use Rattle.series.specs.Found.{KeepsLimits, kept_found}
use Rattle.series.specs.Laws.{newest, SteadyOn, SteadyBefore, OwnDayOn, OwnDayBefore}
use Rattle.series.proofs.Order.{head_rises, tail_rises}

-- ---- answers of rows that are put together

or_none : {V : Type 0} (o : Option V) → or_else o None ≡ o
or_none None = refl
or_none (Some v) = refl

or_assoc : {V : Type 0} (a b c : Option V) → or_else (or_else a b) c ≡ or_else a (or_else b c)
or_assoc None b c = refl
or_assoc (Some v) b c = refl

last_append : {V : Type 0} (passes : ℕ → Bool) (above below : List (Dated V)) → last_value passes (above ++ below) ≡ or_else (last_value passes below) (last_value passes above)
last_append passes [] below = sym (or_none (last_value passes below))
last_append passes (row ∷ above) below =
    ap (λ o. or_else o (cond (passes row.date) (Some row.value) None)) (last_append passes above below)
    ∙ or_assoc (last_value passes below) (last_value passes above) (cond (passes row.date) (Some row.value) None)

-- ---- dates that rise

below_rises : {V : Type 0} (above below : List (Dated V)) → rising (above ++ below) ≡ true → rising below ≡ true
below_rises [] below up = up
below_rises (row ∷ above) below up = below_rises above below (tail_rises row (above ++ below) up)

above_earlier : {V : Type 0} (above below : List (Dated V)) (row : Dated V) → rising (above ++ (row ∷ below)) ≡ true → AllByRecursion (λ a. a.date < row.date) above
above_earlier [] below row up = tt
above_earlier (a ∷ []) below row up = (head_rises a row below up, tt)
above_earlier (a ∷ (b ∷ above)) below row up =
    let rest = above_earlier (b ∷ above) below row (tail_rises a (b ∷ (above ++ (row ∷ below))) up) in
    let first = head_rises a b (above ++ (row ∷ below)) up in
    (omega (arith, rest.0), rest)

-- a test that no date from a day on passes finds nothing in rows that begin there
none_from : {V : Type 0} (passes : ℕ → Bool) (day : ℕ) → ((date : ℕ) → day ≤ date → passes date ≡ false) → (row : Dated V) (rows : List (Dated V)) → rising (row ∷ rows) ≡ true → day ≤ row.date → last_value passes (row ∷ rows) ≡ None
none_from passes day fails row [] up from = ap (λ t. cond t (Some row.value) None) (fails row.date from)
none_from passes day fails row (next ∷ rows) up from =
    let later = head_rises row next rows up in
    ap (λ o. or_else o (cond (passes row.date) (Some row.value) None)) (none_from passes day fails next rows (tail_rises row (next ∷ rows) up) (omega arith))
    ∙ ap (λ t. cond t (Some row.value) None) (fails row.date from)

-- a test that every row passes finds the newest
all_newest : {V : Type 0} (passes : ℕ → Bool) (rows : List (Dated V)) → AllByRecursion (λ row. passes row.date ≡ true) rows → last_value passes rows ≡ newest rows
all_newest passes [] all = refl
all_newest passes (row ∷ rows) all =
    ap (λ o. or_else o (cond (passes row.date) (Some row.value) None)) (all_newest passes rows all.1)
    ∙ ap (λ t. or_else (newest rows) (cond t (Some row.value) None)) all.0

-- ---- the laws

-- the last row that passes, with rows below it that do not
settles : {V : Type 0} (passes : ℕ → Bool) (rows above below : List (Dated V)) (row : Dated V) → rows ≡ above ++ (row ∷ below) → passes row.date ≡ true → last_value passes below ≡ None → last_value passes rows ≡ Some row.value
settles passes rows above below row split passed none =
    ap (last_value passes) split
    ∙ last_append passes above (row ∷ below)
    ∙ ap (λ o. or_else (or_else o (cond (passes row.date) (Some row.value) None)) (last_value passes above)) none
    ∙ ap (λ t. or_else (cond t (Some row.value) None) (last_value passes above)) passed

module _ {V : Type 0} (rows : List (Dated V)) (up : rising rows ≡ true) (day : ℕ) where
  from_split : (above below : List (Dated V)) → rows ≡ above ++ below → rising (above ++ below) ≡ true
  from_split above below split = ap rising (sym split) ∙ up

  pub steady_on : (answer : Option V) → answer ≡ in_force_on rows day → SteadyOn rows day answer
  steady_on answer found above below row next split from until =
      let rest = tail_rises row (next ∷ below) (below_rises above (row ∷ (next ∷ below)) (from_split above (row ∷ (next ∷ below)) split)) in
      found
      ∙ settles (λ date. leb date day) rows above (next ∷ below) row split (le-leb row.date day from)
      (none_from (λ date. leb date day) next.date (λ date h. lt-leb date day (omega arith)) next below rest (omega arith))

  pub steady_before : (answer : Option V) → answer ≡ in_force_before rows day → SteadyBefore rows day answer
  steady_before answer found above below row next split from until =
      let rest = tail_rises row (next ∷ below) (below_rises above (row ∷ (next ∷ below)) (from_split above (row ∷ (next ∷ below)) split)) in
      found
      ∙ settles (λ date. ltb date day) rows above (next ∷ below) row split (lt-ltb row.date day from)
      (none_from (λ date. ltb date day) day (λ date h. le-ltb date day h) next below rest until)

  none_after : (row : Dated V) (below : List (Dated V)) → rising (row ∷ below) ≡ true → row.date ≡ day → last_value (λ date. leb date day) below ≡ None
  none_after row [] rest same = refl
  none_after row (next ∷ below) rest same =
      let later = head_rises row next below rest in
      none_from (λ date. leb date day) next.date (λ date h. lt-leb date day (omega arith)) next below (tail_rises row (next ∷ below) rest) (omega arith)

  pub own_day_on : (answer : Option V) → answer ≡ in_force_on rows day → OwnDayOn rows day answer
  own_day_on answer found above below row split same =
      found
      ∙ settles (λ date. leb date day) rows above below row split (le-leb row.date day (omega arith))
      (none_after row below (below_rises above (row ∷ below) (from_split above (row ∷ below) split)) same)

  pub own_day_before : (answer : Option V) → answer ≡ in_force_before rows day → OwnDayBefore rows day answer
  own_day_before answer found above below row split same =
      let whole = from_split above (row ∷ below) split in
      found
      ∙ ap (last_value (λ date. ltb date day)) split
      ∙ last_append (λ date. ltb date day) above (row ∷ below)
      ∙ ap (λ o. or_else o (last_value (λ date. ltb date day) above)) (none_from (λ date. ltb date day) day (λ date h. le-ltb date day h) row below (below_rises above (row ∷ below) whole) (omega arith))
      ∙ all_newest (λ date. ltb date day) above (All-weaker (λ (a : Dated V). a.date < row.date) (λ a. ltb a.date day ≡ true) (λ a h. lt-ltb a.date day (omega arith)) above (above_earlier above below row whole))

-- what every value of the rows keeps, the answer keeps
pub keeps_found : {V : Type 0} (passes : ℕ → Bool) (rows : List (Dated V)) (answer : Option V) → answer ≡ last_value passes rows → KeepsLimits rows answer
keeps_found passes rows answer found fits all = rw found (kept_found fits passes rows all)
