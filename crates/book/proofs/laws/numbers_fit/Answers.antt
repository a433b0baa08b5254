use Rattle.book.proofs.Reaching.{every_life_fits, every_share_out_fits}
use Rattle.book.proofs.laws.numbers_fit.Goals as goal

pub returns : goal.returns
returns c = record { life = every_life_fits; tables = every_share_out_fits }
