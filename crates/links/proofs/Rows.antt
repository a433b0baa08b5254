-- The first row end that a length does not pass, as a search finds it, is the row of a length.
use Rattle.std.proofs.Common.{◌≡◌, ℕ, ◌+◌, ◌<◌, ◌≤◌, Bool, true, false, cond, not, ltb, leb, List, [], ◌∷◌, Some, None, Option, refl, ap, sym, ◌∙◌, ⊎_elim, arith}
use Rattle.std.specs.List.{position_or_len}
use Rattle.std.specs.Option.{ok_or}
use Rattle.std.proofs.lemmas.Bool.{cases_Bool, and_from, le-leb, leb-false, lt-ltb, le-ltb}
use Rattle.std.proofs.lemmas.Bool.Decides.{nat_tests}
use Rattle.calendar.specs.Days.{within}
use Rattle.refusal.specs.Checks.{unless}
use Rattle.refusal.specs.declared.Refusal.TheVariants.{MetresOutOfRange}
use Rattle.links.specs.Tables.{row_ends, ends_passed, row_of, row_checked}
use Rattle.links.proofs.CellLimits.{row_limit}

turned : (b : Bool) (x y : ℕ) → cond (not b) x y ≡ cond b y x
turned true x y = refl
turned false x y = refl

first_end : (metres : ℕ) (ends : List ℕ) → position_or_len (λ end. leb metres end) ends ≡ ends_passed ends metres
first_end metres [] = refl
first_end metres (end ∷ ends) = turned (leb metres end) _ 0 ∙ ap (λ n. cond (leb metres end) 0 (1 + n)) (first_end metres ends)

past_ends : (metres : ℕ) → 16000 < metres → 9 ≤ row_of metres
past_ends metres long = grind (arith, nat_tests)

by_length : (metres : ℕ) → 0 < metres → ok_or (cond (ltb (row_of metres) 9) (Some (row_of metres)) None) MetresOutOfRange ≡ row_checked metres
by_length metres some =
    ⊎_elim
    (λ is. let inside : within 1 metres 16000 ≡ true = and_from _ _ (le-leb 1 metres some) is in
    rw (lt-ltb (row_of metres) 9 (row_limit metres inside)) (ap (λ t. unless (cond (not t) (Some MetresOutOfRange) None) (row_of metres)) (sym inside)))
    (λ is. let outside : within 1 metres 16000 ≡ false = rw (le-leb 1 metres some) is in
    rw (le-ltb (row_of metres) 9 (past_ends metres (leb-false metres 16000 is))) (ap (λ t. unless (cond (not t) (Some MetresOutOfRange) None) (row_of metres)) (sym outside)))
    (cases_Bool (leb metres 16000))

pub row_found : (metres : ℕ) (found : Option ℕ) → 0 < metres
    → found ≡ cond (ltb (position_or_len (λ end. leb metres end) row_ends) 9) (Some (position_or_len (λ end. leb metres end) row_ends)) None
    → ok_or found MetresOutOfRange ≡ row_checked metres
row_found metres found some is =
    ap (λ o. ok_or o MetresOutOfRange) (is ∙ ap (λ row. cond (ltb row 9) (Some row) None) (first_end metres row_ends)) ∙ by_length metres some
