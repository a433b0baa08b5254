use Rattle.std.proofs.Common.{◌*◌, ◌%◌, leb, ap, ◌∙◌}
use Rattle.sheet_parts.proofs.Decimals.{compared}
use Rattle.sheet_parts.proofs.rounding.reaches.Goals as goal

pub returns : goal.returns
returns c =
    let amount = c.args.amount in
    record {
      value = ap (λ d. leb (c.args.least * d) (amount.numerator % d * 10)) c.from-divisor.ensures
          ∙ compared c.args.least (amount.numerator % amount.denominator * 10) amount.denominator amount.some;
    }
