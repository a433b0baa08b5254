use Rattle.std.proofs.Common.{refl, arith}
use Rattle.book.proofs.YearSums.{zeros, one_asked}
use Rattle.book.proofs.year_weights.YearWeights.up_to.Goals as goal

pub loop-year-init : goal.loop-year-init
loop-year-init g c = (refl, λ y below. absurd (omega arith), λ y le. zeros 41 y, refl)

pub loop-year-preserved : goal.loop-year-preserved
loop-year-preserved g c =
    let m = g.T.Tariff.meaning c.args.sheet.now in
    let (places, own, none, small) = c.loop-year.invariant in
    one_asked m c.loop-year.by_index c.loop-year.year places own none small _ c.weight.ensures.value ((g.T.Tariff.lawful c.args.sheet.now).weights c.loop-year.year (omega arith)) (omega arith)
