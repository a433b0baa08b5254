-- A file read entry by entry, from its first block to the last that passes its check.
--   blank_before  whether a blank stands before an entry in its block
--   entry_told    what an entry of a block tells
--   Item          what a turn of the reading gives: an entry at its place, or a fault
--   file_read     all that the reading of a file gives, in order
use Rattle.std.specs.Prelude.{◌≡◌, ℕ, zero, suc, ◌+◌, ◌*◌, ◌-◌, Bool, true, List, [], ◌∷◌, ◌++◌, length, take, drop, Some, None, Option, Ok, Err, Result}
use Rattle.std.specs.List.{list_any, range_with_len}
use Rattle.refusal.specs.declared.Refusal.{Refusal}
use Rattle.event_file.specs.Blocks.{block_check, block_of, entry_of, file_blocks}
use Rattle.event_file.specs.Entries.{Told, event, blank, told, is_blank, shown}
use Rattle.event_file.specs.Format.{label_of, label_stands}
use Rattle.event_file.specs.declared.event.Entry.{Entry}
use Rattle.event_file.specs.declared.fault.Fault.{Fault}
use Rattle.event_file.specs.declared.fault.Place.{Place}
use Rattle.event_file.specs.declared.fault.Place.TheVariants as place

-- A blank stands before an entry if one of the earlier entries of its block is a blank.
abbrev pub blank_before : List ℕ → ℕ → Bool
blank_before b n = list_any (λ i. is_blank (entry_of b i)) (range_with_len 0 n)

abbrev pub entry_told : List ℕ → ℕ → Result Told Refusal
entry_told b n = told (blank_before b n) (entry_of b n)

-- An entry with its block and its place in the block, both counted from 1.
pub record ShownEntry : Type 0 where
  pub block : ℕ
  pub entry : ℕ
  pub told : Told

abbrev pub Item : Type 0
Item = Result ShownEntry Fault

abbrev pub fault_at : Refusal → ℕ → ℕ → Fault
fault_at refusal block entry = record { refusal = refusal; place = place.Entry block entry }

abbrev pub placed : ℕ → ℕ → Result Told Refusal → Item
placed block entry (Ok t) = Ok (record { block = block; entry = entry; told = t })
placed block entry (Err refusal) = Err (fault_at refusal block entry)

-- The next entries of a block, so many of them, in order. Blocks and places are counted from 1
-- where they are told.
abbrev pub entries_read : List ℕ → ℕ → ℕ → ℕ → List Item
entries_read b number place zero = []
entries_read b number place (suc more) =
    placed (number + 1) (place + 1) (entry_told b place) ∷ entries_read b number (place + 1) more

-- A file that fails as a whole, or a block that fails its check, gives its fault alone, and nothing
-- is read after it.
abbrev pub only_fault : Place → Refusal → List Item
only_fault at refusal = Err (record { refusal = refusal; place = at }) ∷ []

abbrev pub checked : {A : Type 0} → Result Unit Refusal → (Refusal → A) → A → A
checked (Ok u) stop go = go
checked (Err refusal) stop go = stop refusal

-- The next blocks of a file, so many of them, in order, each checked before its seventeen entries.
abbrev pub blocks_read : List ℕ → ℕ → ℕ → List Item
blocks_read bs number zero = []
blocks_read bs number (suc more) =
    checked (block_check (block_of bs number)) (only_fault (place.Block (number + 1)))
    (entries_read (block_of bs number) number 0 17 ++ blocks_read bs (number + 1) more)

abbrev pub opened_read : List ℕ → Result ℕ Refusal → List Item
opened_read bs (Ok blocks) = blocks_read bs 0 blocks
opened_read bs (Err refusal) = only_fault place.File refusal

abbrev pub file_read : List ℕ → List Item
file_read bs = opened_read bs (file_blocks (length bs))

-- A file of a length that no file has is refused as a whole: its fault is all that it gives.
pub record RefusedWhole (bs : List ℕ) (fault : Fault) : Type 0 where
  pub lawless : file_blocks (length bs) ≡ Err fault.refusal
  pub whole : fault.place ≡ place.File
  pub told : file_read bs ≡ Err fault ∷ []

-- The program's entry, with its place, as a plain value.
abbrev pub shown_entry : Result Entry Fault → Item
shown_entry (Ok e) = Ok (record { block = e.block; entry = e.entry; told = shown e.event })
shown_entry (Err fault) = Err fault

-- What a step gives, if it gives something: no entry is the end.
abbrev pub shown_step : Result (Option Entry) Fault → Option Item
shown_step (Ok (Some e)) = Some (shown_entry (Ok e))
shown_step (Ok None) = None
shown_step (Err fault) = Some (Err fault)

-- The sixteen bytes of a file where the label of an entry stands.
abbrev pub label_at : List ℕ → ℕ → ℕ → List ℕ
label_at bs block entry = take 16 (drop ((block - 1) * 512 + ((entry - 1) * 30 + 14)) bs)

-- The label of an event is what the file has at its place, and can be a label.
pub record LabelStands (bs : List ℕ) (block entry : ℕ) (label : List ℕ) : Type 0 where
  pub in_place : label ≡ label_at bs block entry
  pub stands : label_stands label ≡ true

abbrev pub LabelOf : List ℕ → ℕ → ℕ → Told → Type 0
LabelOf bs block entry (event e) = LabelStands bs block entry (label_of e)
LabelOf bs block entry blank = Unit {0}

-- An entry that a step gives has this label, if it tells an event.
abbrev pub LabelIs : List ℕ → Option Item → Type 0
LabelIs bs (Some (Ok e)) = LabelOf bs e.block e.entry e.told
LabelIs bs (Some (Err fault)) = Unit {0}
LabelIs bs None = Unit {0}

-- What a loop over a reader is given.
abbrev pub shown_item : Option (Result Entry Fault) → Option Item
shown_item (Some r) = Some (shown_entry r)
shown_item None = None
