-- How far a reader has come, as it counts for itself: a position is the number of entries passed,
-- 17 to a block.
--   places   the entries of all whole blocks
--   left_at  what is left to read from a position on
use Rattle.std.specs.Prelude.{ℕ, zero, suc, ◌+◌, ◌-◌, ◌*◌, ◌/◌, ◌%◌, cond, List, ◌++◌, length, Ok, Result, ◌==◌}
use Rattle.refusal.specs.declared.Refusal.{Refusal}
use Rattle.event_file.specs.Blocks.{block_check, block_of}
use Rattle.event_file.specs.Reading.{Item, blocks_read, entries_read}

abbrev pub places : List ℕ → ℕ
places bs = length bs / 512 * 17

-- A block is checked before its first entry.
abbrev pub check_at : List ℕ → ℕ → Result Unit Refusal
check_at b n = cond (n == 0) (block_check b) (Ok tt)

-- From a place of a block on, in a file of some blocks: the rest of the block and the blocks after
-- it.
abbrev pub from_place : List ℕ → ℕ → ℕ → ℕ → List Item
from_place bs blocks number zero = blocks_read bs number (blocks - number)
from_place bs blocks number (suc place) =
    entries_read (block_of bs number) number (suc place) (16 - place) ++
    blocks_read bs (number + 1) (blocks - (number + 1))

unfoldable pub left_at : List ℕ → ℕ → List Item
left_at bs p = from_place bs (length bs / 512) (p / 17) (p % 17)
