use Rattle.std.proofs.Common.{arith}
use Rattle.sheets.proofs.RowTimesRatio.{numerator_most, denominator_is, fits_up_to_4}
use Rattle.sheets.proofs.indexed.indexed_after.Goals as goal

pub overflow_mul-numerator : goal.overflow_mul-numerator
overflow_mul-numerator c =
    let most = numerator_most c.args.months c.in_ok-row.row c.args.ratio c.in_ok-row.ensures.value c.requires in omega arith

pub overflow_mul-denominator : goal.overflow_mul-denominator
overflow_mul-denominator c =
    let is = denominator_is c.args.months c.in_ok-row.row c.args.ratio c.in_ok-row.ensures.value c.requires in
    let few = c.requires.small in omega arith

pub overflow_mul-denominator-2 : goal.overflow_mul-denominator-2
overflow_mul-denominator-2 c =
    let is = denominator_is c.args.months c.in_ok-row.row c.args.ratio c.in_ok-row.ensures.value c.requires in
    let few = c.requires.small in omega arith

pub returns : goal.returns
returns c = record {
  value = fits_up_to_4 c.args.months c.in_ok-row.row c.args.ratio c.in_ok-row.ensures.value c.requires (omega arith);
}
