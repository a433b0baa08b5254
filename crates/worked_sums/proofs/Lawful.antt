-- A flat sheet with the common row keeps the limits of a tariff.
use Rattle.std.proofs.Common.{arith}
use Rattle.calendar.specs.Days.{months_between}
use Rattle.tariff.specs.Meaning.{Lawful, PriceLimits}
use Rattle.tariff.specs.declared.kinds.Kind.{Kind}
use Rattle.tariff.specs.declared.kinds.Kind.TheVariants.{Covered, Connectable, ThirdParty}
use Rattle.sheet_parts.specs.Nearness.{near_five_down}
use Rattle.sheet_parts.specs.RowLimits.{common_limits}
use Rattle.worked_sums.specs.Sheets.{flat_price, sheet_down}

flat_limits : (kind : Kind) → PriceLimits (flat_price kind)
flat_limits Covered = record { some = omega arith; most = omega arith }
flat_limits Connectable = record { some = omega arith; most = omega arith }
flat_limits ThirdParty = record { some = omega arith; most = omega arith }

pub down_lawful : Lawful sheet_down
down_lawful = record {
  prices = λ kind installed real. flat_limits kind;
  coefficients = λ installed receipt p q. common_limits (months_between installed receipt);
  contributions = omega arith;
  weights = λ index few. omega arith;
  near = λ n d most some small. near_five_down n d some;
}
