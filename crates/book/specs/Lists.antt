-- Words on lists that the rules use, beside the library's own.
--   total      the sum of a number of each element
--   written    a list written from the start of another, whose later places stay as they were
--   placed     an element changed under its number, or a new one placed last
use Rattle.std.specs.Prelude.{ℕ, ◌+◌, cond, List, [], ◌∷◌, ◌++◌, length, drop, ◌==◌}

abbrev pub total : {A : Type 0} → (A → ℕ) → List A → ℕ
total f [] = 0
total f (x ∷ xs) = f x + total f xs

abbrev pub written : {A : Type 0} → List A → List A → List A
written xs old = xs ++ drop (length xs) old

-- Where an element has the number it is changed, and where none has it the new one stands last.
abbrev pub placed : {A : Type 0} → (A → ℕ) → ℕ → (A → A) → A → List A → List A
placed number n change new [] = new ∷ []
placed number n change new (x ∷ xs) =
    cond (number x == n) (change x ∷ xs) (x ∷ placed number n change new xs)
