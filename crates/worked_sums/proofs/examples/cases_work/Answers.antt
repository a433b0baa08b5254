use Rattle.worked_sums.proofs.Working.{amounts_worked, refusals_in_order, tables_limited}
use Rattle.worked_sums.proofs.examples.cases_work.Goals as goal

pub returns : goal.returns
returns c = record { value = amounts_worked; refusal = refusals_in_order; tables = tables_limited }
