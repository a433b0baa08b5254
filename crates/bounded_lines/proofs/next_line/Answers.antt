use Rattle.std.proofs.Common.{◌≡◌, [], ◌∷◌, Some, IfSome, vec_items, sym, subst, rules}
use Rattle.bounded_lines.specs.Lines.{line_feed, line_read}
use Rattle.bounded_lines.specs.Pieces.{AtEnd, Took}
use Rattle.bounded_lines.proofs.Lines.{ended, skipped}
use Rattle.bounded_lines.proofs.Pieces.{line_taken, part_taken, unfed_after}
use Rattle.bounded_lines.proofs.next_line.Goals as goal

pub returns-in-Line : goal.returns-in-Line
returns-in-Line g c =
    let before = g.B.Read.remaining c.loop.input in
    let after = g.B.Read.remaining c.take_piece.new.input in
    let took : Took before after (vec_items c.loop.line) (vec_items c.take_piece.new.line) (line_feed ∷ []) =
    rw c.in-Line.is at c.in_ok-take_piece.ensures.taken in
    let read = line_taken _ before after _ _ c.loop.invariant.1 c.loop.invariant.2 took (search rules) in
    record { line = read.0; rest = read.1; bounded = search rules }

pub returns-in-End-2 : goal.returns-in-End-2
returns-in-End-2 g c =
    let before = g.B.Read.remaining c.loop.input in
    let after = g.B.Read.remaining c.take_piece.new.input in
    let last : AtEnd before after (vec_items c.loop.line) (vec_items c.take_piece.new.line) =
    rw c.in-End-2.is at c.in_ok-take_piece.ensures.taken in
    let read = ended _ before after _ c.loop.invariant.1 c.loop.invariant.2 last.kept last.none (search rules) (search rules) in
    let line = subst (λ l. IfSome (g.B.Read.remaining c.args.input.now) (λ given. Some l ≡ line_read given)) (sym last.same) read.0 in
    record { line = line; rest = read.1; bounded = search rules }

pub returns-in-Part : goal.returns-in-Part
returns-in-Part g c =
    let before = g.B.Read.remaining c.loop.input in
    let after = g.B.Read.remaining c.take_piece.new.input in
    let took : Took before after (vec_items c.loop.line) (vec_items c.take_piece.new.line) [] =
    rw c.in-Part.is at c.in_ok-take_piece.ensures.taken in
    let none = unfed_after _ before after _ _ [] c.loop.invariant.1 c.loop.invariant.2 took in
    let taken = part_taken _ before after _ _ c.loop.invariant.1 c.loop.invariant.2 took in
    let read = skipped _ after _ _ none taken c.in_ok-skip_until-in-Part.ensures.rest (search rules) in
    record { line = read.0; rest = read.1; bounded = search rules }
