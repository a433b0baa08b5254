use Rattle.std.proofs.Common.{◌∙◌, arith}
use Rattle.book.proofs.YearSums.{products_part, weight_in_limit, weight_is, weight_is_first}
use Rattle.book.proofs.year_weights.YearWeights.of_tranches.Goals as goal

pub products-requires-clause-most : goal.products-requires-clause-most
products-requires-clause-most c =
    let ts = c.args.tranches.now in
    let ws = c.args.self.now.by_index in
    let part = products_part 8 ts ws in
    let whole = weight_in_limit 200 ts ws c.args.self.now.small c.requires.rate in omega (arith, part, whole)

pub products-requires-else-self-lt-FEW_YEARS-clause-most : goal.products-requires-else-self-lt-FEW_YEARS-clause-most
products-requires-else-self-lt-FEW_YEARS-clause-most c =
    let whole = weight_in_limit 200 c.args.tranches.now c.args.self.now.by_index c.args.self.now.small c.requires.rate in omega (arith, whole)

pub returns-then-self-lt-FEW_YEARS-clause-value : goal.returns-then-self-lt-FEW_YEARS-clause-value
returns-then-self-lt-FEW_YEARS-clause-value c m asked =
    c.products.ensures.value ∙ weight_is_first m c.args.self.now asked c.args.tranches.now (omega arith) 8 c.if-self-lt-FEW_YEARS.true

pub returns-then-self-lt-FEW_YEARS-clause-most : goal.returns-then-self-lt-FEW_YEARS-clause-most
returns-then-self-lt-FEW_YEARS-clause-most c =
    let ts = c.args.tranches.now in
    let ws = c.args.self.now.by_index in
    let part = products_part 8 ts ws in
    let whole = weight_in_limit 200 ts ws c.args.self.now.small c.requires.rate in omega (arith, part, whole, c.products.ensures.value)

pub returns-else-self-lt-FEW_YEARS-clause-value : goal.returns-else-self-lt-FEW_YEARS-clause-value
returns-else-self-lt-FEW_YEARS-clause-value c m asked =
    c.products-else-self-lt-FEW_YEARS.ensures.value ∙ weight_is m c.args.self.now asked c.args.tranches.now (omega arith)

pub returns-else-self-lt-FEW_YEARS-clause-most : goal.returns-else-self-lt-FEW_YEARS-clause-most
returns-else-self-lt-FEW_YEARS-clause-most c =
    let whole = weight_in_limit 200 c.args.tranches.now c.args.self.now.by_index c.args.self.now.small c.requires.rate in
    omega (arith, whole, c.products-else-self-lt-FEW_YEARS.ensures.value)
