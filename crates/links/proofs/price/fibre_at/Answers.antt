use Rattle.std.proofs.Common.{rules}
use Rattle.links.specs.Tables.{extra}
use Rattle.links.proofs.price.fibre_at.Goals as goal

pub returns : goal.returns
unfolding extra
returns g c = search rules
