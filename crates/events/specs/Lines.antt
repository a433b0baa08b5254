-- The lines in which a file is shown to people.
--   event_text  an event: its letter, numbers, form and label
--   told_text   an event or a blank
--   entry_line  the line of an entry, with its block and its place in the block
--   fault_line  the line of a refusal, with its place, number and sentence
--   line_text   either of these
use Rattle.std.specs.Prelude.{ℕ, cond, List, [], ◌++◌, codes, decimal, Ok, Err, Result, if◌then◌else◌}
use Rattle.std.specs.List.{list_all}
use Rattle.refusal.specs.Numbers.{number_of}
use Rattle.refusal.specs.Sentences.{sentence_of}
use Rattle.event_file.specs.Format.{Shown, commitment, raise, opening, cabling, launch, label_of, printable}
use Rattle.event_file.specs.Entries.{Told, event, blank, shown}
use Rattle.event_file.specs.declared.fault.Fault.{Fault}
use Rattle.event_file.specs.declared.fault.Place.{Place}
use Rattle.event_file.specs.declared.fault.Place.TheVariants.{File, Block, Entry}
use Rattle.event_file.specs.declared.event.Entry as events

abbrev pub letter_of : Shown → List ℕ
letter_of (commitment d n a l) = codes "E"
letter_of (raise d n a l) = codes "A"
letter_of (opening d n a l) = codes "P"
letter_of (cabling d n a t l) = codes "S"
letter_of (launch d l) = codes "L"

abbrev pub date_of : Shown → ℕ
date_of (commitment d n a l) = d
date_of (raise d n a l) = d
date_of (opening d n a l) = d
date_of (cabling d n a t l) = d
date_of (launch d l) = d

-- The form is 1 for third-party cabling, else 0.
abbrev pub form_of : Shown → ℕ
form_of (commitment d n a l) = 0
form_of (raise d n a l) = 0
form_of (opening d n a l) = 0
form_of (cabling d n a t l) = cond t 1 0
form_of (launch d l) = 0

abbrev pub operator_text : ℕ → ℕ → List ℕ
operator_text n a = codes " operator " ++ (decimal n ++ (codes " rate " ++ decimal a))

abbrev pub object_text : ℕ → ℕ → List ℕ
object_text n a = codes " object " ++ (decimal n ++ (codes " dwellings " ++ decimal a))

-- A launch has no number but its date.
abbrev pub numbers_text : Shown → List ℕ
numbers_text (commitment d n a l) = operator_text n a
numbers_text (raise d n a l) = operator_text n a
numbers_text (opening d n a l) = object_text n a
numbers_text (cabling d n a t l) = object_text n a
numbers_text (launch d l) = []

-- A label prints, as that of every entry that is read does; one that did not would not be shown.
abbrev pub label_text : List ℕ → List ℕ
label_text l = if list_all printable l then l else []

-- The label stands between marks that show its blanks.
abbrev pub event_text : Shown → List ℕ
event_text e =
    letter_of e ++ (codes " date " ++ (decimal (date_of e) ++ (numbers_text e ++
    (codes " form " ++ (decimal (form_of e) ++
    (codes " label \"" ++ (label_text (label_of e) ++ codes "\"")))))))

abbrev pub told_text : Told → List ℕ
told_text (event e) = event_text e
told_text blank = codes "blank"

abbrev pub entry_line : ℕ → ℕ → Told → List ℕ
entry_line b n t = codes "block " ++
    (decimal b ++ (codes " entry " ++ (decimal n ++ (codes ": " ++ told_text t))))

abbrev pub place_text : Place → List ℕ
place_text File = codes "file"
place_text (Block b) = codes "block " ++ decimal b
place_text (Entry b n) = codes "block " ++ (decimal b ++ (codes " entry " ++ decimal n))

abbrev pub fault_line : Fault → List ℕ
fault_line f = place_text f.place ++
    (codes ": refused " ++ (decimal (number_of f.refusal) ++ (codes ", " ++ sentence_of f.refusal)))

abbrev pub line_text : Result events.Entry Fault → List ℕ
line_text (Ok e) = entry_line e.block e.entry (shown e.event)
line_text (Err f) = fault_line f
