use Rattle.std.proofs.Common.{ap, ◌∙◌, arith}
use Rattle.std.specs.Result.{result_unwrap_or}
use Rattle.unit_prices.proofs.Bounds.{unit_most}
use Rattle.unit_prices.proofs.Checked.{contribution_taken}
use Rattle.book.proofs.Soundness.{sized_of}
use Rattle.book.proofs.sound_entries.Object.unit_contribution.Goals as goal

pub returns : goal.returns
returns g c =
    let m = g.T.Tariff.meaning c.args.sheet.now in
    let law = g.T.Tariff.lawful c.args.sheet.now in
    let o = c.args.self.item.now in
    let i = c.args.increase in
    let real = (sized_of o c.args.self.sound).1 in
    let is = c.unwrap_or.ensures ∙ ap (λ r. result_unwrap_or r 0) c.unit_contribution.ensures.answer ∙ contribution_taken m law o.kind o.installed i.date i.tranches real i.real i.few in
    let most = unit_most m law o.kind o.installed i.date i.tranches real i.few in
    let few = i.few in
    record { value = is; most = omega (arith, is, most, few) }
