-- What the format guarantees, as laws over all events and all bytes.
--   ReadsBack           the bytes of every event within limits read back as that event
--   OnlyItsBytes        an entry that reads as an event is exactly that event's bytes
--   ChangeIsFound       a block in which any single byte is changed fails its check
--   SameEntries         two blocks that pass all checks and give the same entries are the same
--                       bytes
use Rattle.std.specs.Prelude.{◌≡◌, ℕ, ◌<◌, Bool, true, false, List, is_ok, Ok, ◌≢◌, slice_index, slice_set}
use Rattle.event_file.specs.Bytes.{Bytes}
use Rattle.event_file.specs.Blocks.{passes}
use Rattle.event_file.specs.Format.{Shown, Writes}
use Rattle.event_file.specs.Entries.{event, told}
use Rattle.event_file.specs.Reading.{entry_told}

-- Bytes that write an event read as that event, where no blank stands before them in their block.
abbrev pub ReadsBack : Type 0
ReadsBack = (bs : List ℕ) (e : Shown) → Writes bs e → told false bs ≡ Ok (event e)

-- Bytes that read as an event write it, and no blank stands before them in their block.
abbrev pub OnlyItsBytes : Type 0
OnlyItsBytes = (after : Bool) (bs : List ℕ) (e : Shown) → Bytes bs →
    told after bs ≡ Ok (event e) → (after ≡ false) × Writes bs e

-- A block that passes its check fails it once any of its bytes is another, in an entry or in the
-- check itself.
abbrev pub ChangeIsFound : Type 0
ChangeIsFound = (b : List ℕ) (i v : ℕ) → Bytes b → passes b ≡ true → i < 512 → v < 256 →
    (v ≢ slice_index b i) → passes (slice_set b i v) ≡ false

-- A block that passes its check, and of which every entry is an event or a blank.
pub record Sound (b : List ℕ) : Type 0 where
  pub bytes : Bytes b
  pub check : passes b ≡ true
  pub entries : (n : ℕ) → n < 17 → is_ok (entry_told b n) ≡ true

-- Nothing in such a block goes unread: its entries determine all its bytes.
abbrev pub SameEntries : Type 0
SameEntries = (b c : List ℕ) → Sound b → Sound c →
    ((n : ℕ) → n < 17 → entry_told b n ≡ entry_told c n) → b ≡ c
