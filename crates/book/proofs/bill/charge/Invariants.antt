use Rattle.std.proofs.Common.{drop}
use Rattle.book.specs.Billing.{charged}
use Rattle.book.specs.Members.{members_of}
use Rattle.book.proofs.Writing.{Writing}
use Rattle.book.proofs.bill.charge.Given as goal

abbrev pub invariant-loop-place : goal.invariant-loop-place
invariant-loop-place g l =
    Writing 0 l.initial.strip (charged (g.T.Tariff.meaning l.sheet) l.object.item.now (members_of l.operators.items.now))
    (charged (g.T.Tariff.meaning l.sheet) l.object.item.now (members_of (drop l.place l.operators.items.now))) l.place l.strip
