-- A file is cut into blocks, and a block into entries and its check.
--   file_blocks  how many blocks a file of a length has, or why it has none
--   check_of     the check that bytes call for
--   passes       whether a block is whole and carries the check that its bytes call for
--   part_of      a part of a list that is cut into parts of one size, counted from 0
--   block_of     a block of a file, counted from 0
--   entry_of     an entry of a block, counted from 0
use Rattle.std.specs.Prelude.{ℕ, ◌+◌, ◌*◌, ◌/◌, ◌%◌, Bool, not, ◌&&◌, ◌||◌, List, [], ◌∷◌, length, take, drop, Result, ◌==◌, nat_lt, slice_index}
use Rattle.refusal.specs.declared.Refusal.{Refusal}
use Rattle.refusal.specs.declared.Refusal.TheVariants.{BadFileLength, BadBlockCheck}
use Rattle.refusal.specs.Checks.{first, unless, ◌⇒◌}
use Rattle.event_file.specs.Bytes.{to_number}

-- A file is a whole number of blocks of 512 bytes, and has at most 65,536 bytes.
abbrev pub file_blocks : ℕ → Result ℕ Refusal
file_blocks n = unless (first (((not (n % 512 == 0) || nat_lt 65536 n) ⇒ BadFileLength) ∷ []))
    (n / 512)

-- The bytes as one number, modulo 65,521.
abbrev pub check_of : List ℕ → ℕ
check_of bs = to_number bs % 65521

-- The check stands in the last two bytes of a block, high byte first.
abbrev pub written_check : List ℕ → ℕ
written_check b = slice_index b 510 * 256 + slice_index b 511

-- A block has 512 bytes, and the check that it carries is that of its first 510 bytes.
abbrev pub passes : List ℕ → Bool
passes b = length b == 512 && check_of (take 510 b) == written_check b

abbrev pub block_check : List ℕ → Result Unit Refusal
block_check b = unless (first ((not (passes b) ⇒ BadBlockCheck) ∷ [])) tt

abbrev pub part_of : ℕ → List ℕ → ℕ → List ℕ
part_of size bs n = take size (drop (n * size) bs)

abbrev pub block_of : List ℕ → ℕ → List ℕ
block_of bs n = part_of 512 bs n

abbrev pub entry_of : List ℕ → ℕ → List ℕ
entry_of b n = part_of 30 b n
