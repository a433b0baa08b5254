use Rattle.std.proofs.Common.{leb, ◌∙◌, rules, arith}
use borrow.Author.Tests.{tests}
use Rattle.std.proofs.lemmas.Iterator.{YieldsList-from_slice}
use Rattle.std.proofs.lemmas.Iterator.Search.{position_from_yields_List}
use Rattle.links.specs.Tables.{row_ends}
use Rattle.links.proofs.Rows.{row_found}
use Rattle.links.proofs.tables.row_of.Goals as goal

pub returns : goal.returns
returns c =
    let found = position_from_yields_List (λ end. leb c.args.metres end) _ _ c.position-row.result c.position-row.ensures.ran (YieldsList-from_slice row_ends cc) (λ x b q k. search (rules, tests)) in
    record { answer = c.ok_or.ensures.value ∙ row_found c.args.metres c.position-row.result (omega arith) found }
