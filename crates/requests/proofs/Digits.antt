-- The steps of reading a decimal number.
use Rattle.std.proofs.Common.{◌≡◌, ℕ, ◌+◌, ◌*◌, ◌^◌, ◌<◌, ◌≤◌, true, leb, cond, List, length, get_or, drop, is_some, Some, None, unwrap_or, ap, ◌∙◌, mul-le-mul_right, pow-suc, add-one, arith}
use native.Mathlib.Nat.{pow-le-pow_right}
use Rattle.std.proofs.lemmas.List.{at_drop_more}
use Rattle.std.proofs.lemmas.Bool.{cond-true, and_parts, leb-true}
use Rattle.std.proofs.lemmas.Bool.Decides.{nat_tests}
use Rattle.std.specs.Char.{digit_value}
use Rattle.calendar.specs.Days.{within}
use Rattle.requests.specs.Words.{digit, read_on, number}

module _ (n : ℕ) (w : List ℕ) (i : ℕ) (here : i < length w) where
  -- a digit more
  pub read_more : (d : ℕ) → digit (get_or w i 0) ≡ Some d → read_on n (drop i w) ≡ read_on (n * 10 + d) (drop (i + 1) w)
  read_more d is =
      at_drop_more (read_on n) w i 0 here
      ∙ ap (λ o. cond (is_some o) (read_on (n * 10 + unwrap_or o 0) (drop (i + 1) w)) None) is

  -- no digit
  pub read_none : digit (get_or w i 0) ≡ None → read_on n (drop i w) ≡ None
  read_none is =
      at_drop_more (read_on n) w i 0 here
      ∙ ap (λ o. cond (is_some o) (read_on (n * 10 + unwrap_or o 0) (drop (i + 1) w)) None) is

-- a byte's value as the library reads it in base ten
pub digit_read : (byte : ℕ) → digit_value byte < 10 → digit byte ≡ Some (digit_value byte)
digit_read byte low = grind (arith, nat_tests)

pub digit_refused : (byte : ℕ) → (digit_value byte < 10 → ⊥) → digit byte ≡ None
digit_refused byte high = grind (arith, nat_tests)

-- a word of one to nine bytes
pub one_to_nine : (n : ℕ) → within 1 n 9 ≡ true → (1 ≤ n) × (n ≤ 9)
one_to_nine n is = let parts = and_parts (leb 1 n) (leb n 9) is in (leb-true 1 n parts.0, leb-true n 9 parts.1)

pub read_whole : (w : List ℕ) → within 1 (length w) 9 ≡ true → number w ≡ read_on 0 w
unfolding number
read_whole w is = cond-true (within 1 (length w) 9) (read_on 0 w) None is

-- a number of i digits is below the i-th power of ten
pub more_digits : (n d i : ℕ) → n + 1 ≤ 10 ^ i → d ≤ 9 → n * 10 + d + 1 ≤ 10 ^ (i + 1)
more_digits n d i below few =
    let ten : 10 ^ (i + 1) ≡ 10 ^ i * 10 = ap (λ k. 10 ^ k) (add-one i) ∙ pow-suc 10 i in
    let tens = mul-le-mul_right 10 below in omega arith

pub nine_digits : (n i : ℕ) → n + 1 ≤ 10 ^ i → i ≤ 8 → n < 100000000
nine_digits n i below few =
    let most : 10 ^ i ≤ 10 ^ 8 = pow-le-pow_right (omega arith) few in omega arith
