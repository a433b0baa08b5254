-- The definitions compute the examples.
use Rattle.std.proofs.Common.{refl}
use Rattle.sheet_parts.specs.Rounding.{five_up}
use Rattle.sheet_parts.specs.Row.{coefficient_after}
use Rattle.worked_sums.specs.Sheets.{holed_sheet}
use Rattle.worked_sums.specs.Cases.{AmountsWorked}
use Rattle.worked_sums.specs.RefusalOrder.{RefusalsInOrder}
use Rattle.worked_sums.specs.OtherTables.{TablesLimited}

pub amounts_worked : AmountsWorked 15
unfolding coefficient_after
amounts_worked = record {
  prepared_raise = refl;
  opening_lines = refl;
  opening_entry = refl;
  cabling_units = refl;
  bill_lines = refl;
  no_contribution = refl;
  strip_filled = refl;
  strip_kept = refl;
  tables_kept = refl;
  raise_balances = refl;
  raise_tranches = refl;
  weightless = refl;
  nobody = refl;
  nothing_to_share = refl;
  weights_by_year = refl;
  tally_balances = refl;
}

pub refusals_in_order : RefusalsInOrder (holed_sheet five_up)
unfolding coefficient_after
refusals_in_order = record {
  tables_first = refl;
  dates = refl;
  roll = refl;
  sixteen = refl;
  register = refl;
  full = refl;
  sheet = refl;
  share_out_strip = refl;
  not_taken = refl;
}

pub tables_limited : TablesLimited
unfolding coefficient_after
tables_limited = record {
  rolls = refl;
  registers = refl;
  totals = refl;
  commitment_shared = refl;
  raise_shared = refl;
  taken_from_roll = refl;
  later_tranches = refl;
}
