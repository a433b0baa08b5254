-- Numbers that rise: none of them is there twice.
use Rattle.std.proofs.Common.{◌≡◌, ℕ, suc, ◌<◌, true, false, ◌||◌, ltb, eqb, List, [], ◌∷◌, length, sym, refl, ap, ◌∙◌, add-one, arith}
use Rattle.std.specs.List.{AllAdjacentBelow}
use Rattle.std.proofs.lemmas.Bool.{ltb-true, ne_eqb}
use Rattle.checks.specs.Tables.{has_number, repeats}

module _ {A : Type 0} (number : A → ℕ) where
  -- each number is above the one before it
  abbrev pub Rising : List A → Type 0
  Rising xs = AllAdjacentBelow (λ (x y : A). true ≡ ltb (number x) (number y)) xs (length xs)

  first_rises : (x y : A) (xs : List A) → Rising (x ∷ (y ∷ xs)) → number x < number y
  first_rises x y xs up = ltb-true (number x) (number y) (sym (up 0 x (omega arith)))

  rest_rises : (x : A) (xs : List A) → Rising (x ∷ xs) → Rising xs
  rest_rises x xs up = λ k d below. rw add-one (rw add-one at (up (suc k) d (omega arith)))

  -- a number below the first of them is none of them
  none_below : (n : ℕ) (x : A) (xs : List A) → n < number x → Rising (x ∷ xs) → has_number number n (x ∷ xs) ≡ false
  none_below n x [] below up = ap (λ b. b || false) (ne_eqb (number x) n (λ same. omega arith))
  none_below n x (y ∷ xs) below up =
      let other : eqb (number x) n ≡ false = ne_eqb (number x) n (λ same. omega arith) in
      let h = first_rises x y xs up in
      ap (λ b. b || has_number number n (y ∷ xs)) other ∙ none_below n y xs (omega arith) (rest_rises x (y ∷ xs) up)

  pub rising_once : (xs : List A) → Rising xs → repeats number xs ≡ false
  rising_once [] up = refl
  rising_once (x ∷ []) up = refl
  rising_once (x ∷ (y ∷ xs)) up =
      ap (λ b. b || repeats number (y ∷ xs)) (none_below (number x) y xs (first_rises x y xs up) (rest_rises x (y ∷ xs) up)) ∙
      rising_once (y ∷ xs) (rest_rises x (y ∷ xs) up)
