use Rattle.std.proofs.Common.{[], if◌then◌else◌, sym, ap}
use Rattle.event_file.proofs.Printing.{unprinted}
use Rattle.event_file.proofs.label.printed.Goals as goal
use Rattle.event_file.proofs.label.printed.Goals.{in_default-via-in-Ok+else-all_print, in_default-via-in_default}

pub returns-in_default : goal.returns-in_default
returns-in_default c =
    let bs = c.args.bytes.now in
    record {
      value = elim c.in_default.branch [
        | in_default-via-in-Ok+else-all_print w ↦ ap (λ t. if t then bs else []) w.if-all_print.ensures.value
        | in_default-via-in_default w ↦ ap (λ t. if t then bs else []) (sym (unprinted bs w.in_default.ensures.cases.0))
      ];
    }
