-- The numbers of a place in a file, as a statement prints them: 0 where there is none.
use Rattle.std.specs.Prelude.{ℕ}
use Rattle.event_file.specs.declared.fault.Place.{Place}
use Rattle.event_file.specs.declared.fault.Place.TheVariants.{File, Block, Entry}

abbrev pub block_number : Place → ℕ
block_number File = 0
block_number (Block b) = b
block_number (Entry b n) = b

abbrev pub entry_number : Place → ℕ
entry_number File = 0
entry_number (Block b) = 0
entry_number (Entry b n) = n
