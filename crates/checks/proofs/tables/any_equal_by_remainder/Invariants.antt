use Rattle.std.proofs.Common.{◌≡◌, false, length, drop}
use Rattle.checks.specs.Tables.{repeats}
use Rattle.checks.proofs.Remainders.{Noted, IsFlagged}
use Rattle.checks.proofs.tables.any_equal_by_remainder.Given as goal

-- there is a place for each remainder; the entries from the place on repeat no number, and their remainders are noted
abbrev pub invariant-loop-place : goal.invariant-loop-place
invariant-loop-place g l =
    (length l.left ≡ g.row.REMAINDERS) ×
    (repeats g.E.TableEntry.numbered (drop l.place l.entries) ≡ false) ×
    Noted g.E.TableEntry.numbered g.row.REMAINDERS (IsFlagged l.left) (drop l.place l.entries)
