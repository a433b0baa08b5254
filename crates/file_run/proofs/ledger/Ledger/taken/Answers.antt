use Rattle.std.proofs.Common.{arith}
use Rattle.std.proofs.lemmas.Grind.{common_steps}
use Rattle.file_run.proofs.ledger.Ledger.taken.Goals as goal

pub returns-in-Prepared : goal.returns-in-Prepared
returns-in-Prepared g c = let led = c.taken_before_launch.ensures.answer (g.T.Tariff.meaning c.args.sheet.now) in grind (arith, common_steps, led)
