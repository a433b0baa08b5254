-- What one step of the reading of a file comes to.
--   shown_notice  a notice with its label as a list of bytes
--   noticed       the notice that a step gives, if it gives one
--   NoticeOf      a notice is that of an event that was refused
--   Goes          a step that is not the last takes one of what is left to read
use Rattle.std.specs.Prelude.{◌≡◌, ◌<◌, true, List, [], ◌∷◌, length, Some, None, Ok, Err, Option, Result}
use Rattle.std.specs.List.{list_all}
use Rattle.event_file.specs.Entries.{shown_event}
use Rattle.event_file.specs.Format.{label_of, printable}
use Rattle.event_file.specs.Reading.{Item}
use Rattle.file_run.specs.Reports.{ShownNotice, labelled}
use Rattle.file_run.specs.declared.notice.Notice.{Notice}
use Rattle.file_run.specs.declared.notice.RefusedEvent.{RefusedEvent}

abbrev pub shown_notice : Notice → ShownNotice
shown_notice notice = record { fault = notice.fault; label = notice.label.now }

-- An entry that is taken gives no notice, and neither does the end of the file.
abbrev pub noticed : Result (Option (Unit {0})) Notice → List ShownNotice
noticed (Ok taken) = []
noticed (Err notice) = shown_notice notice ∷ []

-- The refusal with its block and entry, and the event's label without its end blanks, as every
-- label prints.
abbrev pub NoticeOf : RefusedEvent → Notice → Type 0
NoticeOf back notice =
    list_all printable (label_of (shown_event back.placed.event)) ≡ true →
    shown_notice notice ≡ labelled back.placed.block back.placed.entry
    (shown_event back.placed.event) back.refusal

-- A step takes one of what is left to read, unless nothing is.
abbrev pub Goes : List Item → Result (Option (Unit {0})) Notice → Type 0
Goes left (Ok None) = left ≡ []
Goes left (Ok (Some taken)) = 0 < length left
Goes left (Err notice) = 0 < length left
