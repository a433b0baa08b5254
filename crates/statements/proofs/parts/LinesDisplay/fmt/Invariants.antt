use Rattle.std.proofs.Common.{take, IfSome}
use Rattle.std.specs.Fmt.{HasWritten, IsPlainFormatter}
use Rattle.statements.specs.Lines.{lines_shown}
use Rattle.statements.proofs.parts.LinesDisplay.fmt.Given as goal

abbrev pub invariant-loop-item : goal.invariant-loop-item
invariant-loop-item g l =
    IsPlainFormatter l.initial.f → IfSome (lines_shown g.T.Display.output (take l.item-index l.item-items)) (λ text. HasWritten g.W.Write.write_str_gives l.initial.f text l.f)
