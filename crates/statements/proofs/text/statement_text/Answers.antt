use Rattle.std.proofs.Common.{◌≡◌, Some, take, string_bytes, ap, ◌∙◌, map}
use Rattle.std.proofs.lemmas.Result.{IfOk-weaker}
use Rattle.money.specs.Signs.{signed_text}
use Rattle.file_run.specs.Steps.{shown_notice}
use Rattle.file_run.specs.Texts.{notice_text}
use Rattle.statements.specs.Lines.{lines_shown}
use Rattle.statements.specs.Statements.{account_text, line, statement_text, totals_text}
use Rattle.statements.proofs.Lines.{accounts_shown, notices_shown, three_parts}
use Rattle.statements.proofs.text.statement_text.Goals as goal

pub returns : goal.returns
returns c =
    let report = c.args.report.now in
    let held = signed_text report.held.negative report.held.amount.micros in
    let members = take report.figures.operators c.args.roll.now in
    let notices = ap (lines_shown (λ n. Some (notice_text (shown_notice n)))) c.as_slice.ensures.value ∙ notices_shown report.notices.items in
    let accounts = ap (lines_shown (λ a. Some (account_text a))) (c.as_slice-2.ensures.value ∙ c.in_ok-members.ensures.value) ∙ accounts_shown members in
    record {
      value = IfOk-weaker c.format.result _ (λ s. string_bytes s ≡ statement_text (map shown_notice report.notices.items) members report.figures.totals held)
          (λ s is. three_parts _ _ _ _ (line (totals_text report.figures.totals held)) (string_bytes s) notices accounts is) c.format.ensures.ok;
    }
