use Rattle.std.proofs.Common.{◌≡◌, get_or, arith, rules}
use Rattle.event_file.specs.Entries.{letter_byte}
use Rattle.event_file.proofs.Exact.{only_its_bytes}
use Rattle.event_file.proofs.Letters.{told_refused}
use Rattle.event_file.proofs.entry.read_entry.Goals as goal

pub returns-in_default-clause-exact : goal.returns-in_default-clause-exact
returns-in_default-clause-exact c = only_its_bytes

pub returns-in_err-try_from-in_default-from-clause-exact : goal.returns-in_err-try_from-in_default-from-clause-exact
returns-in_err-try_from-in_default-from-clause-exact c = only_its_bytes

pub returns-in_err-event-in_default-from-clause-exact : goal.returns-in_err-event-in_default-from-clause-exact
returns-in_err-event-in_default-from-clause-exact c = only_its_bytes

pub returns-in-0-clause-exact : goal.returns-in-0-clause-exact
returns-in-0-clause-exact c = only_its_bytes

pub returns-in-0-2-clause-exact : goal.returns-in-0-2-clause-exact
returns-in-0-2-clause-exact c = only_its_bytes

pub returns-in_ok-event-in_default-from-clause-exact : goal.returns-in_ok-event-in_default-from-clause-exact
returns-in_ok-event-in_default-from-clause-exact c = only_its_bytes

pub returns-in_err-event-in_default-from-clause-answer : goal.returns-in_err-event-in_default-from-clause-answer
returns-in_err-event-in_default-from-clause-answer c =
    let bs = c.args.bytes.now in
    let l = c.in_ok-try_from-in_default-from.field-0 in
    let first : letter_byte l ≡ get_or bs 0 0 = search rules in
    let x = c.in_err-event-in_default-from.field-0.0 in
    let told = told_refused bs l (omega arith) first c.args.after_blank x c.in_err-event-in_default-from.ensures.answer in
    search rules
