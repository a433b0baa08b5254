-- A reader, by what it has left.
--   Unread      a file, and what is left of it to read
--   unread      what a reader shows
--   IsOf        a reader of bytes as they were lent
--   SameBytes   two readers of the same bytes as they were lent
--   Opened      what opening a file gives
--   Gives       what a turn of a loop over a reader gives, and the reader after it
--   turns_left  how many turns such a loop has left
use Rattle.std.specs.Prelude.{◌≡◌, ℕ, ◌/◌, ◌≤◌, List, length, Option, Ok, Err, Result}
use Rattle.std.specs.Iterator.{YieldsFirstBy, Count, item_count}
use denote.Ref.{Bor}
use Rattle.event_file.specs.Blocks.{file_blocks}
use Rattle.event_file.specs.Positions.{left_at}
use Rattle.event_file.specs.Reading.{Item, LabelIs, RefusedWhole, file_read, shown_entry, shown_item}
use Rattle.event_file.specs.declared.event.Entry.{Entry}
use Rattle.event_file.specs.declared.fault.Fault.{Fault}
use Rattle.event_file.specs.declared.reader.Reader.{Reader}

-- A file, and what is left of it to read.
pub record Unread : Type 0 where
  pub file : List ℕ
  pub left : List Item

-- What a reader shows, by the bytes that it was lent and how many entries it has passed.
unfoldable pub unread : Reader → Unread
unread reader =
    record { file = reader.bytes.now; left = left_at reader.bytes.now reader.position }

-- A reader holds the very bytes that it was lent, and not only their values.
abbrev pub IsOf : Bor (List ℕ) → Reader → Type 0
IsOf bytes reader = reader.bytes ≡ bytes

-- A step leaves a reader with the bytes that it was lent.
abbrev pub SameBytes : Reader → Reader → Type 0
SameBytes old new = new.bytes ≡ old.bytes

-- A reader of a file, with all of it left: 128 blocks of 17 entries at most.
pub record OpenedAt (bs : List ℕ) (reader : Unread) : Type 0 where
  pub lawful : file_blocks (length bs) ≡ Ok (length bs / 512)
  pub file : reader.file ≡ bs
  pub left : reader.left ≡ file_read bs
  pub few : length reader.left ≤ 2176

-- A file is opened, or refused as a whole for its length.
abbrev pub Opened : List ℕ → Result Reader Fault → Type 0
Opened bs (Ok reader) = OpenedAt bs (unread reader)
Opened bs (Err fault) = RefusedWhole bs fault

-- A turn of a loop over a reader gives the first of what was left, and the rest is left then.
pub record Gives (old : Reader) (r : Option (Result Entry Fault)) (new : Reader) : Type 0 where
  pub answer : YieldsFirstBy shown_entry (λ reader. (unread reader).left) old r new
  pub kept : (unread new).file ≡ (unread old).file
  pub same : SameBytes old new
  pub label : LabelIs (unread old).file (shown_item r)

-- A loop ends with what is left.
abbrev pub turns_left : Reader → Count
turns_left reader = item_count (λ reader. (unread reader).left) reader
