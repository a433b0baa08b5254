use Rattle.book.proofs.Accounts.{every_life_accounted}
use Rattle.book.proofs.Least.{no_less_held}
use Rattle.book.proofs.laws.accounts_stand.Goals as goal

pub returns : goal.returns
returns c = record { life = every_life_accounted; least = no_less_held }
