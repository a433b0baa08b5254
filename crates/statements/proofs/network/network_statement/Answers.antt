use Rattle.std.proofs.Common.{◌≡◌, string_bytes, map, ap, subst, ◌∙◌}
use Rattle.std.proofs.lemmas.Result.{IfOk-weaker}
use Rattle.book.specs.Passing.{tables}
use Rattle.file_run.specs.Reports.{RunsAsLife}
use Rattle.file_run.specs.Steps.{shown_notice}
use Rattle.sheets.specs.DatedSheets.{dated_meaning}
use Rattle.statements.specs.Network.{network_sheet, empty_tables}
use Rattle.statements.specs.Statements.{statement_of}
use Rattle.statements.proofs.Stated.{states_the_run}
use Rattle.statements.proofs.TooLong.{cut_states}
use Rattle.statements.proofs.network.network_statement.Goals as goal

pub returns-in_err-report-clause-life : goal.returns-in_err-report-clause-life
returns-in_err-report-clause-life c = subst (λ m. RunsAsLife m empty_tables c.args.bytes.now) c.network_sheet-sheet.ensures.meaning c.run_file.ensures.life

pub returns-clause-value : goal.returns-clause-value
returns-clause-value c =
    let report = c.in_ok-report.report in
    let done = c.in_ok-report.ensures in
    let says = states_the_run (dated_meaning c.network_sheet-sheet.result) empty_tables c.args.bytes.now (map shown_notice report.notices.items) report.figures (tables c.run_file.new.roll c.run_file.new.register) report.held.negative report.held.amount.micros
    done.notices done.figures done.tables done.held.sign done.held.amount in
    let named = says ∙ ap (λ m. statement_of m empty_tables c.args.bytes.now) c.network_sheet-sheet.ensures.meaning in
    IfOk-weaker c.statement_text.result _ (λ s. string_bytes s ≡ statement_of network_sheet empty_tables c.args.bytes.now) (λ s is. is ∙ named) c.statement_text.ensures.value

pub returns-clause-life : goal.returns-clause-life
returns-clause-life c = subst (λ m. RunsAsLife m empty_tables c.args.bytes.now) c.network_sheet-sheet.ensures.meaning c.run_file.ensures.life

pub returns-clause-input : goal.returns-clause-input
returns-clause-input c given first =
    IfOk-weaker c.statement_text.result _ (λ s. string_bytes s ≡ statement_of network_sheet empty_tables given)
    (λ s is. is ∙ ap (statement_of network_sheet empty_tables) first ∙ cut_states network_sheet empty_tables given) (returns-clause-value c)
