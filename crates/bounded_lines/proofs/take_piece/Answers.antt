use Rattle.std.proofs.Common.{◌+◌, ◌++◌, ◌≤◌, None, take, length, ap, subst, ◌∙◌, rules, arith}
use Rattle.std.proofs.lemmas.List.{take-take}
use Rattle.std.specs.Io.BufRead.{FillKeeps}
use Rattle.std.proofs.BufReadLemmas.{Consumes_shown}
use Rattle.memchr.specs.Find.{IsFirstByte, is_byte}
use Rattle.bounded_lines.specs.Lines.{line_feed}
use Rattle.bounded_lines.proofs.Pieces.{at_end, end_before, end_inside, line_took, part_took}
use Rattle.bounded_lines.proofs.take_piece.Goals as goal

pub returns-then-is_empty-clause-taken : goal.returns-then-is_empty-clause-taken
returns-then-is_empty-clause-taken g c =
    let rested = c.fill_buf.follows.lender-at-none in
    let filled = subst (FillKeeps _ (g.B.Read.remaining rested) (g.B.BufRead.consumable_len rested)) c.in-Ok.is c.fill_buf.follows.holds-at-none in
    at_end _ _ c.in-Ok.piece.now _ (search rules) c.in-Ok.ensures.end filled.0

pub returns-in-Some-clause-taken : goal.returns-in-Some-clause-taken
returns-in-Some-clause-taken g c =
    let piece = c.in-Ok.piece.now in
    let end = c.in-Some.end in
    let rested = c.fill_buf.follows.lender-at-none in
    let filled = subst (FillKeeps _ (g.B.Read.remaining rested) (g.B.BufRead.consumable_len rested)) c.in-Ok.is c.fill_buf.follows.holds-at-none in
    let moved = Consumes_shown _ _ _ _ piece (end + 1) (end_inside piece c.min-reach.result end c.in-Some.ensures) c.in-Ok.ensures.front c.in-Ok.ensures.end filled.0 filled.1 c.consume.ensures.bytes in
    let added = c.in_ok-extend_from_slice.ensures.items
    ∙ ap (λ l. c.args.line.now.items ++ l) (take-take end c.min-reach.result piece (end_before piece c.min-reach.result end c.in-Some.ensures)) in
    line_took piece c.min-reach.result end c.in-Some.ensures _ _ _ _ added moved.0

pub returns-clause-taken : goal.returns-clause-taken
returns-clause-taken g c =
    let piece = c.in-Ok.piece.now in
    let n = c.min-reach.result in
    let rested = c.fill_buf.follows.lender-at-none in
    let filled = subst (FillKeeps _ (g.B.Read.remaining rested) (g.B.BufRead.consumable_len rested)) c.in-Ok.is c.fill_buf.follows.holds-at-none in
    let within : n ≤ length piece = omega (arith, c.min-reach.ensures) in
    let nowhere : IsFirstByte (is_byte line_feed) (take n piece) None = search rules in
    let moved = Consumes_shown _ _ _ _ piece n within c.in-Ok.ensures.front c.in-Ok.ensures.end filled.0 filled.1 c.consume-2.ensures.bytes in
    part_took piece n nowhere _ _ _ _ c.in_ok-extend_from_slice-2.ensures.items moved.0
