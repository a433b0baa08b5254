-- Judging each row beside the one before it gives the same as judging all rows whole.
use Rattle.std.proofs.Common.{◌≡◌, ℕ, zero, suc, ◌<◌, ◌≤◌, Bool, true, false, ◌&&◌, ltb, List, [], ◌∷◌, length, get_or, sym, refl, ap, ◌∙◌, ⊎_elim, add-one, arith}
use Rattle.std.specs.List.{AllAdjacentBelow, IsAllAdjacentAnswer}
use Rattle.std.proofs.lemmas.Bool.{and_parts, cases_Bool, true≢false}
use Rattle.calendar.specs.Days.{is_date}
use Rattle.series.specs.declared.rows.Dated.{Dated}
use Rattle.series.specs.Rows.{real, rising, within_limits}

-- what a test says of each row and the next
module _ {A : Type 0} (test : A → A → Bool) where
  abbrev pub each_next : List A → Bool
  each_next [] = true
  each_next (row ∷ []) = true
  each_next (row ∷ (next ∷ rows)) = test row next && each_next (next ∷ rows)

  next_at : (rows : List A) → each_next rows ≡ true → (k : ℕ) (d : A) → suc k < length rows → test (get_or rows k d) (get_or rows (suc k) d) ≡ true
  next_at [] all k d below = absurd (omega arith)
  next_at (row ∷ []) all k d below = absurd (omega arith)
  next_at (row ∷ (next ∷ rows)) all zero d below = (and_parts (test row next) (each_next (next ∷ rows)) all).0
  next_at (row ∷ (next ∷ rows)) all (suc k) d below = next_at (next ∷ rows) (and_parts (test row next) (each_next (next ∷ rows)) all).1 k d (omega arith)

  each_of : (rows : List A) → AllAdjacentBelow (λ row next. true ≡ test row next) rows (length rows) → each_next rows ≡ true
  each_of [] all = refl
  each_of (row ∷ []) all = refl
  each_of (row ∷ (next ∷ rows)) all =
      let first : test row next ≡ true = sym (all 0 row (omega arith)) in
      let rest : each_next (next ∷ rows) ≡ true = each_of (next ∷ rows) (λ k d below. rw add-one (rw add-one at (all (suc k) d (omega arith)))) in
      ap (λ t. t && each_next (next ∷ rows)) first ∙ rest

  pub each_seen : (rows : List A) (seen : Bool) → IsAllAdjacentAnswer (λ row next b. b ≡ test row next) rows seen → seen ≡ each_next rows
  each_seen rows true all = sym (each_of rows all)
  each_seen [] false (k, below, not) = absurd (omega arith)
  each_seen (row ∷ rows) false (k, below, not) =
      let fails : test (get_or (row ∷ rows) k row) (get_or (row ∷ rows) (suc k) row) ≡ false = sym (rw add-one at (not row)) in
      ⊎_elim
      (λ all. absurd (true≢false (sym (next_at (row ∷ rows) all k row (omega arith)) ∙ fails)))
      (λ no. sym no)
      (cases_Bool (each_next (row ∷ rows)))

-- whether a row stands, and whether the next may come after it
module _ {V : Type 0} (fits : V → Bool) where
  abbrev pub standing : Dated V → Bool
  standing row = is_date row.date && fits row.value

  abbrev pub follows : Dated V → Dated V → Bool
  follows row next = ltb row.date next.date && standing next

  regroup : (a b c x y z : Bool) → ((a && b) && ((c && (x && y)) && z)) ≡ ((a && b) && (c && ((x && y) && z)))
  regroup false b c x y z = refl
  regroup true false c x y z = refl
  regroup true true false x y z = refl
  regroup true true true x y z = refl

  apart : (a b c r u w : Bool) → ((a && b) && (c && (r && (u && w)))) ≡ ((a && r) && ((c && u) && (b && w)))
  apart false b c r u w = refl
  apart true false c false u w = refl
  apart true false false true u w = refl
  apart true false true true false w = refl
  apart true false true true true w = refl
  apart true true false false u w = refl
  apart true true true false u w = refl
  apart true true false true u w = refl
  apart true true true true false w = refl
  apart true true true true true w = refl

  -- the first stands and each next follows, if the dates are real and rise and the values keep their limits
  judged : (row : Dated V) (rows : List (Dated V)) → let all = row ∷ rows in
      (standing row && each_next follows all) ≡ (real all && (rising all && within_limits fits all))
  judged row [] = apart (is_date row.date) (fits row.value) true true true true
  judged row (next ∷ rows) =
      let all = next ∷ rows in
      regroup (is_date row.date) (fits row.value) (ltb row.date next.date) (is_date next.date) (fits next.value) (each_next follows all)
      ∙ ap (λ t. standing row && (ltb row.date next.date && t)) (judged next rows)
      ∙ apart (is_date row.date) (fits row.value) (ltb row.date next.date) (real all) (rising all) (within_limits fits all)

  -- the same of rows that have a first
  pub judged_from : (rows : List (Dated V)) (first : Dated V) → first ≡ get_or rows 0 first → 1 ≤ length rows →
      (standing first && each_next follows rows) ≡ (real rows && (rising rows && within_limits fits rows))
  judged_from [] first is some = absurd (omega arith)
  judged_from (row ∷ rows) first is some = ap (λ r. standing r && each_next follows (row ∷ rows)) is ∙ judged row rows
