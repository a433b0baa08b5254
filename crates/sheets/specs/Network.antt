-- The network's own price records: covered, connectable and third-party prices from each date on.
use Rattle.std.specs.Prelude.{ℕ, List, [], ◌∷◌}
use Rattle.series.specs.declared.rows.Dated.{Dated}
use Rattle.sheet_parts.specs.declared.given.Prices.{Prices}

-- Prices in micro-euros from a date on.
abbrev pub from_date : ℕ → ℕ → ℕ → ℕ → Dated Prices
from_date date covered connectable third = record {
  date = date;
  value = record { covered = covered; connectable = connectable; third = third };
}

abbrev pub network_records : List (Dated Prices)
network_records =
    from_date 20080101 6910000 18770000 16200000 ∷
    from_date 20211001 6939900 18851218 16270097 ∷
    from_date 20220901 7049769 19149661 16527677 ∷
    from_date 20230701 7218082 19606860 16922277 ∷
    from_date 20240701 7478824 20315128 17533568 ∷ []
