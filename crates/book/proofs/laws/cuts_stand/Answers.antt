use Rattle.book.proofs.Chain.{every_cut_fair}
use Rattle.book.proofs.Least.{no_less_apart}
use Rattle.book.proofs.laws.cuts_stand.Goals as goal

pub returns : goal.returns
returns c = record { cut = every_cut_fair; least = no_less_apart }
