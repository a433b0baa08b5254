use Rattle.book.proofs.Counting.{lines_counted}
use Rattle.book.proofs.Following.{share_out_follows}
use Rattle.book.proofs.laws.share_outs_follow.Goals as goal

pub returns : goal.returns
returns c = record { refusal = share_out_follows; lines = lines_counted }
