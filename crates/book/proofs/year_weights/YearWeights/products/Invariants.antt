use Rattle.std.proofs.Common.{◌≡◌, ◌+◌, drop}
use Rattle.book.specs.Weights.{products}
use Rattle.book.proofs.year_weights.YearWeights.products.Given as goal

-- what is left gives the sum
abbrev pub invariant-loop-year : goal.invariant-loop-year
invariant-loop-year l = l.sum + products (drop l.year l.tranches) (drop l.year l.weights) ≡ products l.tranches l.weights
