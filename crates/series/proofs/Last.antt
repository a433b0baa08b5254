-- The last row that passes a test, found by its place.
use Rattle.std.proofs.Common.{◌≡◌, ℕ, zero, suc, ◌<◌, Bool, true, false, cond, List, [], ◌∷◌, length, get_or, Some, None, refl, ap, ◌∙◌, arith}
use Rattle.series.specs.declared.rows.Dated.{Dated}
use Rattle.series.specs.Lookups.{or_else, last_value}

module _ {V : Type 0} (passes : ℕ → Bool) where
  pub none_passes : (rows : List (Dated V)) → ((k : ℕ) (d : Dated V) → k < length rows → passes (get_or rows k d).date ≡ false) → last_value passes rows ≡ None
  none_passes [] no' = refl
  none_passes (row ∷ rows) no' =
      ap (λ o. or_else o (cond (passes row.date) (Some row.value) None)) (none_passes rows (λ k d h. no' (suc k) d (omega arith)))
      ∙ ap (λ t. cond t (Some row.value) None) (no' 0 row (omega arith))

  pub last_at : (rows : List (Dated V)) (n : ℕ) (d : Dated V) → n < length rows → passes (get_or rows n d).date ≡ true → ((k : ℕ) (e : Dated V) → n < k → k < length rows → passes (get_or rows k e).date ≡ false) → last_value passes rows ≡ Some (get_or rows n d).value
  last_at [] n d inside yes' no' = absurd (omega arith)
  last_at (row ∷ rows) zero d inside yes' no' =
      ap (λ o. or_else o (cond (passes row.date) (Some row.value) None)) (none_passes rows (λ k e h. no' (suc k) e (omega arith) (omega arith)))
      ∙ ap (λ t. cond t (Some row.value) None) yes'
  last_at (row ∷ rows) (suc n) d inside yes' no' =
      ap (λ o. or_else o (cond (passes row.date) (Some row.value) None)) (last_at rows n d (omega arith) yes' (λ k e h l. no' (suc k) e (omega arith) (omega arith)))
