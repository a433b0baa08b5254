use Rattle.book.specs.Increases.{addition_in}
use Rattle.book.proofs.Charging.{bill_done}
use Rattle.book.proofs.bill.bill.Goals as goal

pub returns-clause-strip : goal.returns-clause-strip
returns-clause-strip g c =
    bill_done (g.T.Tariff.meaning c.args.sheet.now) (addition_in c.args.increase) c.args.objects.items.now c.loop-item.item-index c.loop-item.invariant c.loop-item-test.false c.requires.room
