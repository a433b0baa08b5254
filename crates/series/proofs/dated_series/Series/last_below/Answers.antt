use Rattle.std.proofs.Common.{◌≤◌, ltb, sym, ◌∙◌, arith}
use Rattle.std.proofs.lemmas.Bool.{lt-ltb, le-ltb}
use Rattle.series.proofs.Last.{none_passes, last_at}
use Rattle.series.proofs.dated_series.Series.last_below.Goals as goal

pub returns-in_err-last : goal.returns-in_err-last
returns-in_err-last g c = record {
  value = c.from_residual.ensures ∙ sym (none_passes (λ date. ltb date c.args.number) c.args.self.now.rows.now
      (λ k d h. let none : 1 ≤ c.rows_below.result → ⊥ = c.in_err-last.ensures in le-ltb _ _ (c.rows_below.ensures.parted.1 k d (omega arith) h)));
}

pub returns : goal.returns
returns g c = record {
  value = sym (last_at (λ date. ltb date c.args.number) c.args.self.now.rows.now c.in_ok-last.last c.index-self-last.result (omega arith)
      (lt-ltb _ _ (c.rows_below.ensures.parted.0 c.in_ok-last.last c.index-self-last.result (omega arith) (omega arith)))
      (λ k e h l. le-ltb _ _ (c.rows_below.ensures.parted.1 k e (omega arith) l)));
}
