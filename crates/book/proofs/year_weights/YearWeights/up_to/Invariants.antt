use Rattle.std.proofs.Common.{◌≡◌, ℕ, ◌<◌, ◌≤◌, true, length, get_or}
use Rattle.tariff.specs.Most.{all_at_most}
use Rattle.book.proofs.year_weights.YearWeights.up_to.Given as goal

-- the years so far have the sheet's weights, the others 0
abbrev pub invariant-loop-year : goal.invariant-loop-year
invariant-loop-year g l =
    (length l.by_index ≡ 41) ×
    ((y : ℕ) → y < l.year → get_or l.by_index y 0 ≡ (g.T.Tariff.meaning l.sheet).weight y) ×
    ((y : ℕ) → l.year ≤ y → get_or l.by_index y 0 ≡ 0) ×
    (all_at_most 200 l.by_index ≡ true)
