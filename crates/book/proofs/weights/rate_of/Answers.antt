use Rattle.std.proofs.Common.{rules, ◌≡◌, sum, ◌∙◌}
use Rattle.std.proofs.iter.runs.Sources.{sums}
use Rattle.book.proofs.Totals.{sum_is_total}
use Rattle.book.proofs.weights.rate_of.Goals as goal

pub sum-requires-clause-fits : goal.sum-requires-clause-fits
sum-requires-clause-fits c = search (rules, sums)

pub returns : goal.returns
returns c =
    let is : c.sum.result ≡ sum c.args.tranches.now = search rules in record { value = is ∙ sum_is_total c.args.tranches.now }
