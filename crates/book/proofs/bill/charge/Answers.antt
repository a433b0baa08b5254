use Rattle.std.proofs.Common.{◌*◌, [], arith}
use Rattle.unit_prices.specs.Limits.{most_unit_contribution}
use Rattle.book.specs.declared.entries.RollEntry.{RollEntry}
use Rattle.book.proofs.Soundness.{sound_at, sized_of}
use Rattle.unit_prices.proofs.Bounds.{price_fits}
use Rattle.book.proofs.Charging.{line_fits, charged_done}
use Rattle.book.proofs.bill.charge.Goals as goal

abbrev blank : RollEntry
blank = record { operator = 0; tranches = []; balance = 0 }

pub line_of-requires : goal.line_of-requires
line_of-requires g c =
    let r = (sound_at c.args.operators.items.now c.args.operators.sound c.loop-place.place blank c.loop-place-test.true).rate in
    let u = price_fits c.price-price.result c.rate_of.result c.price-price.ensures.most (omega (arith, r, c.rate_of.ensures.value)) in
    let s = (sized_of c.args.object.item.now c.args.object.sound).0 in
    let f = line_fits (c.price-price.result * c.rate_of.result) c.args.object.item.now.dwellings most_unit_contribution u s in
    record { most = omega (arith, f) }

pub returns-clause-strip : goal.returns-clause-strip
returns-clause-strip g c =
    charged_done (g.T.Tariff.meaning c.args.sheet.now) c.args.object.item.now c.args.operators.items.now c.loop-place.place c.loop-place.invariant c.loop-place-test.false c.requires.room
