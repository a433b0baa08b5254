-- The definitions compute the sums worked by hand.
use Rattle.std.proofs.Common.{refl}
use Rattle.sheet_parts.specs.Row.{coefficient_after}
use Rattle.worked_sums.specs.Sums.{WorkedSums}

pub worked_sums : WorkedSums
unfolding coefficient_after
worked_sums = record {
  months_0 = refl;
  months_3 = refl;
  months_18 = refl;
  months_65 = refl;
  months_239 = refl;
  down = refl;
  up = refl;
  on_flat = refl;
  on_dated = refl;
  on_indexed = refl;
  day_after_launch = refl;
  year_after_launch = refl;
  contributed = refl;
  seven_down = refl;
  seven_up = refl;
  quotas_2013 = refl;
  quotas_2015 = refl;
  quota_balances = refl;
}
