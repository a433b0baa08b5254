-- What was taken of the input so far is the line so far, and has no line feed.
use Rattle.std.proofs.Common.{◌≤◌, vec_items, vec_len}
use Rattle.std.specs.Io.KnownBytes.{Consumes}
use Rattle.bounded_lines.specs.Lines.{longest_line}
use Rattle.bounded_lines.specs.Pieces.{Unfed}
use Rattle.bounded_lines.proofs.next_line.Given as goal

abbrev pub invariant-loop : goal.invariant-loop
invariant-loop g l = (vec_len l.line ≤ longest_line) × Unfed (vec_items l.line)
    × Consumes (g.B.Read.remaining l.initial.input) (g.B.Read.remaining l.input) (vec_items l.line)
