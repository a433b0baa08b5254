use Rattle.std.proofs.Common.{◌≡◌, false, drop}
use Rattle.std.specs.Int.{IsBitSet}
use Rattle.checks.specs.Tables.{repeats}
use Rattle.checks.proofs.Remainders.{Noted}
use Rattle.checks.proofs.tables.any_equal.Given as goal

-- the entries from the place on repeat no number, and their remainders are noted
abbrev pub invariant-loop-place : goal.invariant-loop-place
invariant-loop-place g l =
    (repeats g.E.TableEntry.numbered (drop l.place l.entries) ≡ false) ×
    Noted g.E.TableEntry.numbered 64 (IsBitSet l.left) (drop l.place l.entries)
