use Rattle.std.proofs.Common.{refl}
use Rattle.sheet_parts.specs.Row.{coefficient_after}
use Rattle.worked_sums.proofs.examples.seven_equal_weights.Goals as goal

pub returns : goal.returns
unfolding coefficient_after
returns c = record { down = refl; up = refl; balances = refl }
