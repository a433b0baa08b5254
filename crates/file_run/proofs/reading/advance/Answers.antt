use Rattle.std.proofs.Common.{◌≡◌, [], ◌∷◌, Ok, Some, slice_get, sym, ap, ◌∙◌, rules}
use Rattle.event_file.specs.Entries.{event, shown_event}
use Rattle.event_file.specs.Reading.{Item}
use Rattle.event_file.specs.Readers.{unread}
use Rattle.event_file.specs.Telling.{left_to_tell}
use Rattle.book.specs.Runs.{lived}
use Rattle.file_run.specs.Reports.{notices, steps_told}
use Rattle.file_run.specs.Steps.{noticed}
use Rattle.file_run.specs.Zones.{state_of}
use Rattle.file_run.proofs.Running.{one_left, some_left}
use Rattle.file_run.proofs.reading.advance.Goals as goal

pub returns-in_err-take-clause-notices : goal.returns-in_err-take-clause-notices
returns-in_err-take-clause-notices g c =
    let m = g.T.Tariff.meaning c.args.sheet.now in
    let item : Item = Ok (record { block = c.in-Some.block; entry = c.in-Some.entry; told = event (shown_event c.in-Some-event.event) }) in
    let first : Some item ≡ slice_get (unread c.args.reader.now).left 0 = search rules in
    let here : noticed c.from_residual-in_err-take.result ≡ notices m (state_of c.args.books.now) (left_to_tell (item ∷ [])) = search rules in
    here ∙ ap (λ l. notices m (state_of c.args.books.now) (left_to_tell l)) (sym (one_left _ item first))

pub returns-in_err-take-clause-after : goal.returns-in_err-take-clause-after
returns-in_err-take-clause-after g c =
    let m = g.T.Tariff.meaning c.args.sheet.now in
    let item : Item = Ok (record { block = c.in-Some.block; entry = c.in-Some.entry; told = event (shown_event c.in-Some-event.event) }) in
    let first : Some item ≡ slice_get (unread c.args.reader.now).left 0 = search rules in
    let here : state_of c.take.new.self ≡ lived m (state_of c.args.books.now) (steps_told (left_to_tell (item ∷ []))) = search rules in
    here ∙ ap (λ l. lived m (state_of c.args.books.now) (steps_told (left_to_tell l))) (sym (one_left _ item first))

pub returns-in_err-take-clause-goes : goal.returns-in_err-take-clause-goes
returns-in_err-take-clause-goes g c =
    let item : Item = Ok (record { block = c.in-Some.block; entry = c.in-Some.entry; told = event (shown_event c.in-Some-event.event) }) in
    let first : Some item ≡ slice_get (unread c.args.reader.now).left 0 = search rules in
    let more = some_left _ item first in
    search (rules, more)

pub returns-clause-notices : goal.returns-clause-notices
returns-clause-notices g c =
    let m = g.T.Tariff.meaning c.args.sheet.now in
    let item : Item = Ok (record { block = c.in-Some.block; entry = c.in-Some.entry; told = event (shown_event c.in-Some-event.event) }) in
    let first : Some item ≡ slice_get (unread c.args.reader.now).left 0 = search rules in
    let here : [] ≡ notices m (state_of c.args.books.now) (left_to_tell (item ∷ [])) = search rules in
    here ∙ ap (λ l. notices m (state_of c.args.books.now) (left_to_tell l)) (sym (one_left _ item first))

pub returns-clause-after : goal.returns-clause-after
returns-clause-after g c =
    let m = g.T.Tariff.meaning c.args.sheet.now in
    let item : Item = Ok (record { block = c.in-Some.block; entry = c.in-Some.entry; told = event (shown_event c.in-Some-event.event) }) in
    let first : Some item ≡ slice_get (unread c.args.reader.now).left 0 = search rules in
    let here : state_of c.take.new.self ≡ lived m (state_of c.args.books.now) (steps_told (left_to_tell (item ∷ []))) = search rules in
    here ∙ ap (λ l. lived m (state_of c.args.books.now) (steps_told (left_to_tell l))) (sym (one_left _ item first))
