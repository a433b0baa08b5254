use Rattle.money.proofs.Padded.{padded_money}
use Rattle.money.proofs.MoneyDisplay.fmt.Goals as goal

pub returns-clause-writes : goal.returns-clause-writes
returns-clause-writes g c = rw (← padded_money c.args.self.now.micros) (rw c.laid_out.ensures at c.write.ensures.writes)
