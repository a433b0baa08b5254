-- Two amounts with one text are one amount.
use Rattle.std.proofs.Common.{◌≡◌, ℕ, ◌+◌, ◌/◌, ◌%◌, List, [], ◌∷◌, ◌++◌, length, take, drop, decimal, sym, refl, ap, ◌∙◌, arith}
use Rattle.std.proofs.lemmas.List.{length-append, take_at, drop_at}
use Rattle.std.proofs.lemmas.Fmt.{decimal_digit, decimal_injective}
use Rattle.money.specs.Text.{money_text, NoLoss}

-- the point and the six decimals
abbrev tail : ℕ → List ℕ
tail n =
    46 ∷ (48 + n / 100000 % 10) ∷ (48 + n / 10000 % 10) ∷ (48 + n / 1000 % 10) ∷
    (48 + n / 100 % 10) ∷ (48 + n / 10 % 10) ∷ (48 + n % 10) ∷ []

spelled : (n : ℕ) → money_text n ≡ decimal (n / 1000000) ++ tail n
spelled n =
    rw (decimal_digit (n / 100000 % 10) (omega arith), decimal_digit (n / 10000 % 10) (omega arith), decimal_digit (n / 1000 % 10) (omega arith), decimal_digit (n / 100 % 10) (omega arith), decimal_digit (n / 10 % 10) (omega arith), decimal_digit (n % 10) (omega arith))

module _ (xs ys : List ℕ) (m n : ℕ) (same : xs ++ tail m ≡ ys ++ tail n) where
  long : length xs ≡ length ys
  long = omega (arith, length-append xs (tail m), length-append ys (tail n), ap length same)

  fronts : xs ≡ ys
  fronts = sym (take_at xs (tail m) (length xs) refl) ∙ ap (take (length xs)) same ∙ take_at ys (tail n) (length xs) (sym long)

  ends : tail m ≡ tail n
  ends = sym (drop_at xs (tail m) (length xs) refl) ∙ ap (drop (length xs)) same ∙ drop_at ys (tail n) (length xs) (sym long)

equal_digits : (m n : ℕ) → tail m ≡ tail n → m / 1000000 ≡ n / 1000000 → m ≡ n
equal_digits m n is front =
    let a : 48 + m / 100000 % 10 ≡ 48 + n / 100000 % 10 = cc in
    let b : 48 + m / 10000 % 10 ≡ 48 + n / 10000 % 10 = cc in
    let c : 48 + m / 1000 % 10 ≡ 48 + n / 1000 % 10 = cc in
    let d : 48 + m / 100 % 10 ≡ 48 + n / 100 % 10 = cc in
    let e : 48 + m / 10 % 10 ≡ 48 + n / 10 % 10 = cc in
    let f : 48 + m % 10 ≡ 48 + n % 10 = cc in
    omega arith

pub no_loss : NoLoss
no_loss m n small_m small_n same =
    let texts = sym (spelled m) ∙ same ∙ spelled n in
    equal_digits m n (ends (decimal (m / 1000000)) (decimal (n / 1000000)) m n texts)
    (decimal_injective (m / 1000000) (n / 1000000) (omega arith) (omega arith) (fronts (decimal (m / 1000000)) (decimal (n / 1000000)) m n texts))
