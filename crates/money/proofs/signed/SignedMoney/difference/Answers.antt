use Rattle.std.proofs.Common.{rules}
use Rattle.money.proofs.Signs.{sign_told}
use Rattle.money.proofs.signed.SignedMoney.difference.Goals as goal

pub returns : goal.returns
returns c = record { negative = search rules; value = search rules; no_loss = sign_told }
