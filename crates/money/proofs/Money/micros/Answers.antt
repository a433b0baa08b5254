use Rattle.std.proofs.Common.{refl}
use Rattle.money.proofs.Apart.{no_loss}
use Rattle.money.proofs.Money.micros.Goals as goal

pub returns : goal.returns
returns c = record { value = refl; no_loss = no_loss }
