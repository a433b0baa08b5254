use Rattle.std.proofs.Common.{drop}
use Rattle.book.specs.Billing.{bill}
use Rattle.book.specs.Increases.{addition_in}
use Rattle.book.proofs.Writing.{Writing}
use Rattle.book.proofs.bill.bill.Given as goal

abbrev pub invariant-loop-item : goal.invariant-loop-item
invariant-loop-item g l =
    Writing 0 l.initial.strip (bill (g.T.Tariff.meaning l.sheet) (addition_in l.increase) l.objects.items.now)
    (bill (g.T.Tariff.meaning l.sheet) (addition_in l.increase) (drop l.item-index l.objects.items.now)) l.next l.strip
