use Rattle.std.proofs.Common.{rules, ltb}
use Rattle.std.proofs.lemmas.Bool.{ltb-true, ltb-false}
use Rattle.std.proofs.lemmas.List.Sorted.{IsPartitionPoint-from_clause, IsPartitionedBy-ltb}
use Rattle.series.proofs.Order.{rises}
use Rattle.series.proofs.dated_series.Series.rows_below.Goals as goal

pub returns-clause-parted : goal.returns-clause-parted
returns-clause-parted g c =
    let rows = c.args.self.now.rows.now in
    let sorted = IsPartitionedBy-ltb (λ row. row.date) rows c.args.number (rises rows c.args.self.now.rising) in
    let point = IsPartitionPoint-from_clause (λ row. ltb row.date c.args.number) rows c.partition_point.result c.partition_point.ensures.partitioned sorted (λ a r f' k. search rules) in
    (λ k d from below. ltb-true _ _ (point.0 k d from below), λ k d from below. ltb-false _ _ (point.1 k d from below))
