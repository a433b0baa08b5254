-- No reference price passes 16,572 euros, by one test over the table.
use Rattle.std.proofs.Common.{◌≡◌, ℕ, zero, suc, ◌≤◌, Bool, true, ◌&&◌, List, [], ◌∷◌, get_or, refl, mul-le-mul_right, arith}
use Rattle.std.proofs.lemmas.Bool.{and_parts}
use Rattle.tariff.specs.Most.{all_at_most, at_most}
use Rattle.links.specs.Tables.{reference, price_at}
use Rattle.links.specs.Quotations.{most_reference}

abbrev rows_at_most : ℕ → List (List ℕ) → Bool
rows_at_most most [] = true
rows_at_most most (row ∷ rows) = all_at_most most row && rows_at_most most rows

row_at_most : (most : ℕ) (table : List (List ℕ)) → rows_at_most most table ≡ true → (row column : ℕ) → get_or (get_or table row []) column 0 ≤ most
row_at_most most [] all row column = omega arith
row_at_most most (r ∷ rs) all zero column = at_most most r (and_parts (all_at_most most r) _ all).0 column
row_at_most most (r ∷ rs) all (suc row) column = row_at_most most rs (and_parts (all_at_most most r) _ all).1 row column

pub reference_most : (row column : ℕ) → price_at reference row column ≤ most_reference
unfolding reference
reference_most row column = mul-le-mul_right 1000000 (row_at_most 16572 reference refl row column)
