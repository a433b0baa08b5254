use Rattle.std.proofs.Common.{refl}
use Rattle.sheet_parts.specs.Row.{coefficient_after}
use Rattle.worked_sums.proofs.examples.statement_example.Goals as goal

pub returns : goal.returns
unfolding coefficient_after
returns c = record { refusal = refl; balances = refl; rates = refl; totals = refl }
