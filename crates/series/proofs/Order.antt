-- Rows that rise, taken apart: a row and the next, the rows after the first, any two rows by their places.
use Rattle.std.proofs.Common.{◌≡◌, ℕ, zero, suc, ◌<◌, true, ltb, List, [], ◌∷◌, length, get_or, refl, le_of_lt, add-one, arith}
use Rattle.std.specs.List.Sorted.{IsNonDecreasingBy}
use Rattle.std.proofs.lemmas.List.Sorted.{IsNonDecreasingBy-from_all_adjacent}
use Rattle.std.proofs.lemmas.Bool.{and_parts, ltb-true}
use Rattle.series.specs.declared.rows.Dated.{Dated}
use Rattle.series.specs.Rows.{rising}

pub head_rises : {V : Type 0} (row next : Dated V) (rows : List (Dated V)) → rising (row ∷ (next ∷ rows)) ≡ true → row.date < next.date
head_rises row next rows up = ltb-true row.date next.date (and_parts (ltb row.date next.date) (rising (next ∷ rows)) up).0

pub tail_rises : {V : Type 0} (row : Dated V) (rows : List (Dated V)) → rising (row ∷ rows) ≡ true → rising rows ≡ true
tail_rises row [] up = refl
tail_rises row (next ∷ rows) up = (and_parts (ltb row.date next.date) (rising (next ∷ rows)) up).1

next_later : {V : Type 0} (rows : List (Dated V)) → rising rows ≡ true → (k : ℕ) (d : Dated V) → suc k < length rows → (get_or rows k d).date < (get_or rows (suc k) d).date
next_later [] up k d below = absurd (omega arith)
next_later (row ∷ []) up k d below = absurd (omega arith)
next_later (row ∷ (next ∷ rows)) up zero d below = head_rises row next rows up
next_later (row ∷ (next ∷ rows)) up (suc k) d below = next_later (next ∷ rows) (tail_rises row (next ∷ rows) up) k d (omega arith)

pub rises : {V : Type 0} (rows : List (Dated V)) → rising rows ≡ true → IsNonDecreasingBy (λ row. row.date) rows
rises rows up = IsNonDecreasingBy-from_all_adjacent (λ row. row.date) rows (λ k d below. rw add-one (le_of_lt (next_later rows up k d (omega arith))))
