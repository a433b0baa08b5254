use Rattle.book.proofs.Following.{billed_is_entered}
use Rattle.book.proofs.laws.billed_tranches_enter.Goals as goal

pub returns : goal.returns
returns c = record { tables = billed_is_entered }
