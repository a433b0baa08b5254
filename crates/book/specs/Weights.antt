-- What tranches of each year index weigh, as the code holds it for a share-out.
--   products    tranches times weights, place by place, added up
--   AreAsked    weights that a sheet was asked for, up to a year index; 0 after it
use Rattle.std.specs.Prelude.{◌≡◌, ℕ, ◌+◌, ◌*◌, ◌<◌, ◌≤◌, List, [], ◌∷◌, slice_index}
use Rattle.tariff.specs.Meaning.{Meaning}
use Rattle.book.specs.declared.year_weights.YearWeights.{YearWeights}

abbrev pub products : List ℕ → List ℕ → ℕ
products [] weights = 0
products (t ∷ ts) [] = 0
products (t ∷ ts) (w ∷ ws) = t * w + products ts ws

-- The sheet's own weights up to the year index, and 0 after it.
pub record AreAsked (m : Meaning) (weights : YearWeights) : Type 0 where
  pub own : (year : ℕ) → year ≤ weights.index → slice_index weights.by_index year ≡ m.weight year
  pub none : (year : ℕ) → weights.index < year → slice_index weights.by_index year ≡ 0
