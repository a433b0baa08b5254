use Rattle.std.proofs.Common.{get_or}
use Rattle.tariff.specs.declared.kinds.Kind.TheVariants.{Covered}
use Rattle.book.specs.Increases.{addition_in}
use Rattle.book.proofs.Crediting.{Inner, Outer}
use Rattle.book.proofs.share.share_out.Given as goal

abbrev pub invariant-loop-item : goal.invariant-loop-item
invariant-loop-item g l =
    Outer (g.T.Tariff.meaning l.sheet) (addition_in l.increase) l.whole l.objects.items.now l.initial.roll l.initial.strip
    l.item-index l.next l.contributed l.credited l.roll l.strip

abbrev pub invariant-loop-member : goal.invariant-loop-member
invariant-loop-member g l =
    Inner (g.T.Tariff.meaning l.sheet) (addition_in l.increase) l.whole
    (get_or l.objects.items.now l.item-index (record { object = 0; kind = Covered; installed = 0; dwellings = 0 })) l.initial.roll l.initial.strip l.initial.next l.initial.credited
    l.member-index l.next l.credited l.roll l.strip
