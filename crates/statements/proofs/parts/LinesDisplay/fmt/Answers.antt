use Rattle.statements.proofs.Lines.{line_written}
use Rattle.statements.proofs.parts.LinesDisplay.fmt.Goals as goal

pub loop-item-preserved : goal.loop-item-preserved
loop-item-preserved g c plain =
    line_written g.T.Display.output g.W.Write.write_str_gives c.args.f.now c.args.self.now.items.now c.loop-item.item-index c.item-item.result c.loop-item.f c.writeln.new.self
    c.loop-item-test.true c.item-item.is (c.loop-item.invariant plain) c.in_ok-writeln.ensures.writes
