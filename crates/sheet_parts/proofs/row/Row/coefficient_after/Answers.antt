use Rattle.std.proofs.Common.{rules, ◌+◌, ◌/◌, ◌%◌, arith}
use Rattle.sheet_parts.specs.Row.{coefficient_after, year_of}
use Rattle.sheet_parts.proofs.Interpolation.{mean_between}
use Rattle.sheet_parts.proofs.row.Row.coefficient_after.Goals as goal

pub returns-then-months-gt-LAST_MONTH-clause-value : goal.returns-then-months-gt-LAST_MONTH-clause-value
unfolding coefficient_after
returns-then-months-gt-LAST_MONTH-clause-value c = search rules

pub returns-clause-value : goal.returns-clause-value
unfolding coefficient_after
returns-clause-value c = search rules

pub returns-clause-between : goal.returns-clause-between
returns-clause-between c before =
    let year = c.args.months / 12 in
    let row = c.args.self.now in
    let between = mean_between (c.args.months % 12) (year_of row year) (year_of row (year + 1)) (omega arith) in
    rw (c.hundredths.ensures.value, c.hundredths-2.ensures.value) between
