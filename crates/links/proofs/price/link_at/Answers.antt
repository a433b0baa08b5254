use Rattle.std.proofs.Common.{rules}
use Rattle.links.specs.Tables.{initial, reference}
use Rattle.links.proofs.TableLimits.{reference_most}
use Rattle.links.proofs.price.link_at.Goals as goal

pub price_on-price-requires-clause-most : goal.price_on-price-requires-clause-most
unfolding reference
price_on-price-requires-clause-most g c = rw c.price_at-2.ensures.value (reference_most c.args.cell.row c.args.cell.column)

pub returns : goal.returns
unfolding initial reference
returns g c = search rules
