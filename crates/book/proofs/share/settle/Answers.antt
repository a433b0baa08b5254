use Rattle.book.specs.Increases.{addition_in}
use Rattle.book.proofs.Afterwards.{credited_rates, credited_room, credited_written}
use Rattle.book.proofs.share.settle.Goals as goal

pub enter-operators-requires-clause-rates : goal.enter-operators-requires-clause-rates
enter-operators-requires-clause-rates g c =
    credited_rates (g.T.Tariff.meaning c.args.sheet.now) (addition_in c.args.increase) c.args.objects.items.now c.args.roll.now c.args.counted c.requires.counted _ c.share_out-totals.ensures.roll c.requires.roll

pub enter-operators-requires-clause-room : goal.enter-operators-requires-clause-room
enter-operators-requires-clause-room g c =
    credited_room (g.T.Tariff.meaning c.args.sheet.now) (addition_in c.args.increase) c.args.objects.items.now c.args.roll.now c.args.counted c.requires.counted _ c.share_out-totals.ensures.roll c.requires.place

pub returns-clause-roll : goal.returns-clause-roll
returns-clause-roll g c =
    credited_written (g.T.Tariff.meaning c.args.sheet.now) (addition_in c.args.increase) c.args.objects.items.now c.args.roll.now c.args.counted c.requires.counted _ c.share_out-totals.ensures.roll _ c.enter-operators.ensures.roll
