use Rattle.std.proofs.Common.{rules, ◌≡◌, ltb}
use Rattle.series.specs.Lookups.{in_force_before}
use Rattle.series.proofs.Steady.{steady_before, own_day_before, keeps_found}
use Rattle.series.proofs.dated_series.Series.in_force_before.Goals as goal

pub returns : goal.returns
returns g c =
    let rows = c.args.self.now.rows.now in
    let found : c.last_below.result ≡ in_force_before rows c.args.day = search rules in
    let keeps = keeps_found (λ date. ltb date c.args.day) rows c.last_below.result found in
    record {
      value = found;
      steady = steady_before rows c.args.self.now.rising c.args.day c.last_below.result found;
      own = own_day_before rows c.args.self.now.rising c.args.day c.last_below.result found;
      limits = keeps;
      fits = keeps g.V.Limited.fits c.args.self.now.fit;
    }
