use Rattle.std.proofs.Common.{ap}
use Rattle.book.specs.Passing.{tables}
use Rattle.book.specs.Zone.{State, preparing}
use Rattle.book.specs.declared.figures.Figures.{Figures}
use Rattle.file_run.proofs.books.Books.new.Goals as goal

pub returns : goal.returns
returns c =
    let t = tables c.args.roll c.args.register in
    record { state = ap {B = State} (λ (f : Figures). record { figures = f; phase = preparing; tables = t }) (c.new.ensures.value t) }
