use Rattle.std.proofs.Common.{arith}
use Rattle.book.specs.Passing.{tables}
use Rattle.at_once.proofs.Settling.{counted_lines, few_lines}
use Rattle.at_once.proofs.settled.lines_at_most.Goals as goal

pub overflow_mul-result : goal.overflow_mul-result
overflow_mul-result c =
    let t = tables c.args.roll.now c.args.register.now in
    let is = counted_lines c.args.zone.now t c.figures-figures.result _ _ (c.figures-figures.ensures.value t) c.min-operators.ensures c.min-objects.ensures in
    omega (arith, is, few_lines c.args.zone.now t)

pub returns : goal.returns
returns c =
    let t = tables c.args.roll.now c.args.register.now in
    record { value = counted_lines c.args.zone.now t c.figures-figures.result _ _ (c.figures-figures.ensures.value t) c.min-operators.ensures c.min-objects.ensures }
