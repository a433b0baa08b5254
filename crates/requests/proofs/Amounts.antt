-- An amount of money, by the parts of its word.
use Rattle.std.proofs.Common.{◌≡◌, ℕ, ◌+◌, ◌-◌, ◌*◌, ◌^◌, ◌<◌, ◌≤◌, Bool, true, false, ◌&&◌, ltb, eqb, List, [], ◌∷◌, length, get_or, take, drop, Some, None, Option, sym, refl, ap, ◌∙◌, ⊎_elim, arith}
use Rattle.std.specs.Option.{SomeIff}
use Rattle.std.specs.Cmp.Lexicographic.{pointwise}
use Rattle.std.proofs.lemmas.Bool.{cases_Bool, ltb-false, le-ltb, lt-ltb, cond-true, cond-false, and_from, and_right}
use Rattle.std.proofs.lemmas.List.{at_drop_more}
use Rattle.requests.specs.Words.{number, amount, micros}

pub too_short : (w : List ℕ) → length w ≤ 7 → amount w ≡ None
unfolding amount
too_short w short = rw (le-ltb 7 (length w) short) refl

no_digits : number [] ≡ None
unfolding number
no_digits = refl

-- seven bytes at the end, from the place of the point on
module _ (w : List ℕ) (k : ℕ) (at : k ≡ length w - 7) (seven : 7 ≤ length w) where
  first_byte : pointwise eqb (take 1 (drop k w)) (46 ∷ []) ≡ (eqb (get_or w k 0) 46 && true)
  first_byte = at_drop_more (λ s. pointwise eqb (take 1 s) (46 ∷ [])) w k 0 (omega arith)

  alone : (b : Bool) → (b && true) ≡ b
  alone true = refl
  alone false = refl

  point : (b : Bool) → pointwise eqb (take 1 (drop k w)) (46 ∷ []) ≡ b → eqb (get_or w (length w - 7) 0) 46 ≡ b
  point b is = rw (← at) (sym (alone (eqb (get_or w k 0) 46)) ∙ sym first_byte ∙ is)

  pub no_point : pointwise eqb (take 1 (drop k w)) (46 ∷ []) ≡ false → amount w ≡ None
  unfolding amount
  no_point is = cond-false _ _ _ (and_right (ltb 7 (length w)) _ (point false is))

  by_point : (euros decimals : List ℕ) → euros ≡ take k w → pointwise eqb (take 1 (drop k w)) (46 ∷ []) ≡ true → decimals ≡ drop 1 (drop k w) → amount w ≡ micros (number euros) (number decimals)
  unfolding amount
  by_point euros decimals front is back =
      let next : drop 1 (drop k w) ≡ drop (k + 1) w = at_drop_more (drop 1) w k 0 (omega arith) in
      ⊎_elim
      (λ more. cond-true _ _ _ (and_from (ltb 7 (length w)) _ more (point true is)) ∙ rw (front, back, next, at) refl)
      (λ few.
      let short = ltb-false 7 (length w) few in
      let none : k ≡ 0 = omega arith in
      too_short w short ∙ rw (front, none, no_digits) refl)
      (cases_Bool (ltb 7 (length w)))

pub by_parts : (w euros back decimals : List ℕ) (k : ℕ) → (7 ≤ length w) × (k ≡ length w - 7) → euros ≡ take k w → back ≡ drop k w
    → (pointwise eqb (take 1 back) (46 ∷ []) ≡ true) × (decimals ≡ drop 1 back) → amount w ≡ micros (number euros) (number decimals)
by_parts w euros back decimals k place front rest is =
    by_point w k place.1 place.0 euros decimals front (rw rest at is.0) (rw rest at is.1)

pub too_many : (euros : ℕ) (decimals : Option ℕ) → (euros * 1000000 < 4294967296 → ⊥) → micros (Some euros) decimals ≡ None
too_many euros None large = refl
too_many euros (Some decimals) large = rw (le-ltb (euros * 1000000 + decimals) (2 ^ 32) (omega arith)) refl

pub summed : (euros decimals : ℕ) (sum : Option ℕ) → SomeIff sum (euros * 1000000 + decimals < 4294967296) (euros * 1000000 + decimals) → sum ≡ micros (Some euros) (Some decimals)
summed euros decimals None large = rw (le-ltb (euros * 1000000 + decimals) (2 ^ 32) (omega arith)) refl
summed euros decimals (Some sum) (small, is) = rw (lt-ltb (euros * 1000000 + decimals) (2 ^ 32) small) (ap Some is)
