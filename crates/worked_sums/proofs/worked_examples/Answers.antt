use Rattle.std.proofs.Common.{rules}
use Rattle.sheet_parts.specs.Row.{coefficient_after}
use Rattle.worked_sums.proofs.Sums.{worked_sums}
use Rattle.worked_sums.proofs.worked_examples.Goals as goal

pub returns : goal.returns
unfolding coefficient_after
returns c = record { sums = worked_sums; coefficients = search rules; indices = search rules }
