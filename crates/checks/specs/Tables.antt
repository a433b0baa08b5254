-- The check of a table, by the number of an entry and by whether it is outside its limits.
--   one_of         whether some condition holds
--   has_number     whether some entry has a number
--   repeats        whether two entries have one number
--   is_bad_table   whether a table is not lawful
use Rattle.std.specs.Prelude.{ℕ, Bool, false, ◌||◌, List, [], ◌∷◌, length, take, nat_eq, nat_lt}
use Rattle.std.specs.List.{list_any}

abbrev pub one_of : List Bool → Bool
one_of conditions = list_any (λ b. b) conditions

abbrev pub has_number : {A : Type 0} → (A → ℕ) → ℕ → List A → Bool
has_number number n entries = list_any (λ x. nat_eq (number x) n) entries

abbrev pub repeats : {A : Type 0} → (A → ℕ) → List A → Bool
repeats number [] = false
repeats number (x ∷ xs) = has_number number (number x) xs || repeats number xs

-- A table is shorter than its count, or a counted entry is outside its limits or repeats a number.
abbrev pub is_bad_table : {A : Type 0} → (A → ℕ) → (A → Bool) → ℕ → List A → Bool
is_bad_table number faulty counted entries =
    one_of (
    nat_lt (length entries) counted ∷
    list_any faulty (take counted entries) ∷
    repeats number (take counted entries) ∷ [])
