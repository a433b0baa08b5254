-- Numbers of a list that are all at most some number: a test over the whole list, and what it
-- tells of each place.
use Rattle.std.specs.Prelude.{◌≡◌, ℕ, zero, suc, ◌≤◌, Bool, true, ◌&&◌, List, [], ◌∷◌, nat_le, slice_index}
use Rattle.std.proofs.Common.{arith}
use Rattle.std.proofs.lemmas.Bool.{and_parts, leb-true}

abbrev pub all_at_most : ℕ → List ℕ → Bool
all_at_most most [] = true
all_at_most most (x ∷ xs) = nat_le x most && all_at_most most xs

pub at_most : (most : ℕ) (xs : List ℕ) → all_at_most most xs ≡ true
    → (i : ℕ) → slice_index xs i ≤ most
at_most most [] all i = omega arith
at_most most (x ∷ xs) all zero = leb-true x most (and_parts _ _ all).0
at_most most (x ∷ xs) all (suc i) = at_most most xs (and_parts _ _ all).1 i
