use Rattle.std.proofs.Common.{◌≡◌, ◌+◌, ◌*◌, ◌≤◌, drop}
use Rattle.book.specs.Increases.{lines_billed}
use Rattle.book.proofs.bill.lines_billed.Given as goal

abbrev pub invariant-loop-object : goal.invariant-loop-object
invariant-loop-object l = (l.lines ≤ 2 * l.object-index) × (l.lines + lines_billed l.date (drop l.object-index l.register) ≡ lines_billed l.date l.register)
