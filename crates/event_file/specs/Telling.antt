-- What an event file tells.
--   Telling       an event with its block and its place in the block, or a fault; a blank tells
--                 nothing
--   left_to_tell  what is told by what is left to read, in order
--   file_tells    all that a file tells
use Rattle.std.specs.Prelude.{ℕ, List, [], ◌∷◌, Ok, Err, flat_map}
use Rattle.event_file.specs.Format.{Shown}
use Rattle.event_file.specs.Entries.{Told, event, blank}
use Rattle.event_file.specs.Reading.{Item, file_read}
use Rattle.event_file.specs.declared.fault.Fault.{Fault}

pub data Telling : Type 0 where
  told_event : (block entry : ℕ) → Shown → Telling
  told_fault : Fault → Telling

-- An entry tells its event, and a blank tells nothing.
abbrev pub entry_tells : ℕ → ℕ → Told → List Telling
entry_tells block entry (event e) = told_event block entry e ∷ []
entry_tells block entry blank = []

abbrev pub tells : Item → List Telling
tells (Ok e) = entry_tells e.block e.entry e.told
tells (Err fault) = told_fault fault ∷ []

abbrev pub left_to_tell : List Item → List Telling
left_to_tell items = flat_map tells items

abbrev pub file_tells : List ℕ → List Telling
file_tells bs = left_to_tell (file_read bs)
