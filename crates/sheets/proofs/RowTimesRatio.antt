-- The row times a ratio of index numbers passes no limit of the tariff but the value 4.
use Rattle.std.proofs.Common.{◌≡◌, ℕ, ◌*◌, ◌≤◌, true, Some, None, sym, ap, subst, ◌∙◌, mul-le-mul, arith}
use Rattle.std.proofs.lemmas.Bool.{cond-true, and_from, le-leb}
use Rattle.tariff.specs.Bounds.{most_numerator, most_denominator, most_coefficient}
use Rattle.tariff.specs.Meaning.{Answered}
use Rattle.sheets.specs.Indexing.{times, row_times, RatioLimits}
use Rattle.sheet_parts.specs.Row.{common_row, coefficient_after}
use Rattle.sheet_parts.specs.RowLimits.{coefficient_fits, InCommonRow, common_most}
use Rattle.tariff.specs.declared.kinds.Coefficient.{Coefficient}

module _ (months : ℕ) (row ratio : Coefficient) (is : Some row ≡ coefficient_after common_row months) (limits : RatioLimits ratio) where
  in_row : InCommonRow row
  in_row = subst (Answered InCommonRow) (sym is) (common_most months)

  pub numerator_most : row.numerator * ratio.numerator ≤ 307200000
  numerator_most = mul-le-mul in_row.most limits.most

  pub denominator_is : row.denominator * ratio.denominator ≡ 1200 * ratio.denominator
  denominator_is = ap (λ d. d * ratio.denominator) in_row.denominator

  pub fits_up_to_4 : row.numerator * ratio.numerator ≤ most_coefficient * (row.denominator * ratio.denominator) → Some (times row ratio) ≡ row_times (coefficient_after common_row months) ratio
  fits_up_to_4 four =
      let few = limits.small in
      let one = limits.some in
      let most = numerator_most in
      let den = denominator_is in
      let n = row.numerator * ratio.numerator in
      let d = row.denominator * ratio.denominator in
      let all : coefficient_fits (times row ratio) ≡ true =
      and_from _ _
      (and_from _ _ (le-leb 1 d (omega arith)) (le-leb d most_denominator (omega arith)))
      (and_from _ _ (le-leb n most_numerator (omega arith)) (le-leb n (most_coefficient * d) four)) in
      sym (cond-true (coefficient_fits (times row ratio)) (Some (times row ratio)) None all) ∙ ap (λ row. row_times row ratio) is
