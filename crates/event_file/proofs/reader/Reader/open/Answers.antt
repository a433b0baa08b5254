use Rattle.std.proofs.Common.{◌≡◌, Ok, length, rules, sym, ap, ◌∙◌, arith}
use Rattle.event_file.specs.Blocks.{file_blocks}
use Rattle.event_file.proofs.Remaining.{all_left, few_left, lawful_length}
use Rattle.event_file.proofs.Unread.{shown_file, shown_left}
use Rattle.event_file.proofs.reader.Reader.open.Goals as goal

pub returns-clause-answer : goal.returns-clause-answer
returns-clause-answer c =
    let bs = c.args.bytes.now in
    let opened : file_blocks (length bs) ≡ Ok c.in_ok-map_err.field-0 = search rules in
    let lawful = lawful_length (length bs) c.in_ok-map_err.field-0 opened in
    let all = sym (shown_left _) ∙ all_left bs lawful in
    record {
      lawful = lawful;
      file = sym (shown_file _);
      left = all;
      few = omega (arith, ap length all, few_left bs lawful);
    }
