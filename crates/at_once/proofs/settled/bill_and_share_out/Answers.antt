use Rattle.std.proofs.Common.{◌≤◌, length, arith}
use Rattle.book.specs.Passing.{tables}
use Rattle.book.specs.Promises.{launched_on}
use Rattle.book.proofs.Living.{whole_life_laws}
use Rattle.at_once.specs.Steps.{strips, most_lines}
use Rattle.at_once.proofs.Settling.{event_lives, few_lines, settled_at_first, settled_at_last, ends}
use Rattle.at_once.proofs.settled.bill_and_share_out.Goals as goal

pub returns-then-lines_at_most-credits-clause-life : goal.returns-then-lines_at_most-credits-clause-life
returns-then-lines_at_most-credits-clause-life g c =
    λ room. event_lives (g.T.Tariff.meaning c.args.sheet.now) (g.T.Tariff.lawful c.args.sheet.now) c.args.zone (tables c.args.roll.now c.args.register.now) c.args.event c.args.first (strips c.args.bill.now c.args.credits.now)

pub returns-then-lines_at_most-credits-clause-longest : goal.returns-then-lines_at_most-credits-clause-longest
returns-then-lines_at_most-credits-clause-longest g c = few_lines c.args.zone (tables c.args.roll.now c.args.register.now)

pub returns-then-lines_at_most-credits-clause-laws : goal.returns-then-lines_at_most-credits-clause-laws
returns-then-lines_at_most-credits-clause-laws g c = whole_life_laws

pub returns-in_err-accepted-clause-life : goal.returns-in_err-accepted-clause-life
returns-in_err-accepted-clause-life g c =
    λ room. event_lives (g.T.Tariff.meaning c.args.sheet.now) (g.T.Tariff.lawful c.args.sheet.now) c.args.zone (tables c.args.roll.now c.args.register.now) c.args.event c.args.first (strips c.args.bill.now c.args.credits.now)

pub returns-in_err-accepted-clause-longest : goal.returns-in_err-accepted-clause-longest
returns-in_err-accepted-clause-longest g c = few_lines c.args.zone (tables c.args.roll.now c.args.register.now)

pub returns-in_err-accepted-clause-laws : goal.returns-in_err-accepted-clause-laws
returns-in_err-accepted-clause-laws g c = whole_life_laws

pub returns-in-Ok-clause-life : goal.returns-in-Ok-clause-life
returns-in-Ok-clause-life g c =
    λ room. event_lives (g.T.Tariff.meaning c.args.sheet.now) (g.T.Tariff.lawful c.args.sheet.now) c.args.zone (tables c.args.roll.now c.args.register.now) c.args.event c.args.first (strips c.args.bill.now c.args.credits.now)

pub returns-in-Ok-clause-longest : goal.returns-in-Ok-clause-longest
returns-in-Ok-clause-longest g c = few_lines c.args.zone (tables c.args.roll.now c.args.register.now)

pub returns-clause-life : goal.returns-clause-life
returns-clause-life g c =
    λ room. event_lives (g.T.Tariff.meaning c.args.sheet.now) (g.T.Tariff.lawful c.args.sheet.now) c.args.zone (tables c.args.roll.now c.args.register.now) c.args.event c.args.first (strips c.args.bill.now c.args.credits.now)

pub returns-clause-longest : goal.returns-clause-longest
returns-clause-longest g c = few_lines c.args.zone (tables c.args.roll.now c.args.register.now)

pub returns-in-Ok-clause-settled : goal.returns-in-Ok-clause-settled
returns-in-Ok-clause-settled g c =
    settled_at_first (g.T.Tariff.meaning c.args.sheet.now) c.args.zone (tables c.args.roll.now c.args.register.now) c.args.event c.args.first (strips c.args.bill.now c.args.credits.now)
    c.in_ok-accepted.accepted.zone c.in_ok-accepted.accepted.lines c.billed.new.strip c.in_ok-accepted.ensures.call
    c.min-few.result c.min-few.ensures c.in-Ok.done.zone (tables c.share_out.new.roll c.args.register.now) c.in-Ok.done.lines c.share_out.new.strip
    c.share_out.auto.strip c.in-Ok.ensures.call

pub returns-clause-settled : goal.returns-clause-settled
returns-clause-settled g c =
    settled_at_last (g.T.Tariff.meaning c.args.sheet.now) c.args.zone (tables c.args.roll.now c.args.register.now) c.args.event c.args.first (strips c.args.bill.now c.args.credits.now)
    c.in_ok-accepted.accepted.zone c.in_ok-accepted.accepted.lines c.billed.new.strip c.in_ok-accepted.ensures.call
    c.min-few.result c.min-few.ensures c.share_out.new.strip 0 c.in-Err.back.refusal c.in-Err.back.kept c.share_out.new.roll c.in-Err.ensures.kept c.in-Err.ensures.call
    c.in-Ok-share_out.done.zone (tables c.share_out-2.new.roll c.args.register.now) c.in-Ok-share_out.done.lines c.share_out-2.new.strip c.in-Ok-share_out.ensures.call

pub unreachable-requires : goal.unreachable-requires
unreachable-requires g c =
    let t = tables c.args.roll.now c.args.register.now in
    let enough : most_lines (launched_on c.args.zone t) ≤ length c.args.credits.now = omega (arith, c.if-lines_at_most-credits.false, c.lines_at_most.ensures.value) in
    ends (g.T.Tariff.meaning c.args.sheet.now) c.args.zone t c.args.event c.args.first (strips c.args.bill.now c.args.credits.now)
    c.in_ok-accepted.accepted.zone c.in_ok-accepted.accepted.lines c.billed.new.strip c.in_ok-accepted.ensures.call
    c.min-few.result c.min-few.ensures c.share_out.new.strip 0 c.in-Err.back.refusal c.in-Err.back.kept c.share_out.new.roll c.in-Err.ensures.kept c.in-Err.ensures.call
    c.share_out-2.new.strip 0 c.in-Err-share_out._open.refusal enough c.in-Err-share_out.ensures.call
