-- What a series holds.
use Rattle.std.specs.Prelude.{List}
use Rattle.series.specs.declared.rows.Dated.{Dated}
use Rattle.series.specs.declared.limits.Limited.{Ghosts}
use Rattle.series.specs.declared.dated_series.Series.{Series}

-- The rows of a series, in their order. Its type names the limits of its kind of value.
abbrev pub rows_of : {V : Type 0} {limited : Ghosts V} → Series V limited → List (Dated V)
rows_of series = series.rows.now
