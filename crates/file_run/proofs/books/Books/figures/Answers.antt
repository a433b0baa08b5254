use Rattle.std.proofs.Common.{arith}
use Rattle.std.proofs.lemmas.Grind.{common_steps}
use Rattle.file_run.specs.Zones.{tables_of}
use Rattle.file_run.proofs.books.Books.figures.Goals as goal

pub returns-in-Prepared : goal.returns-in-Prepared
returns-in-Prepared c = let kept = c.figures.ensures.value (tables_of c.args.self.now.ledger) in grind (arith, common_steps, kept)

pub returns-in-Launched : goal.returns-in-Launched
returns-in-Launched c = let kept = c.figures-in-Launched.ensures.value (tables_of c.args.self.now.ledger) in grind (arith, common_steps, kept)
