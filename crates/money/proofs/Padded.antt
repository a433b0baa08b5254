-- Six decimals, as a hole of six places writes them with zeros before, are those digit by digit.
use Rattle.std.proofs.Common.{◌≡◌, ℕ, zero, suc, ◌+◌, ◌-◌, ◌/◌, ◌%◌, ◌^◌, ◌<◌, ◌≤◌, true, false, ltb, List, [], ◌∷◌, ◌++◌, length, replicate, codes, decimal, sym, refl, ap, ◌∙◌, append_assoc, append-nil, ⊎_elim, arith, add-one}
use Rattle.std.proofs.lemmas.List.{length-append, replicate_more}
use Rattle.std.proofs.lemmas.Fmt.{decimal_digit, decimal_step, decimal_nonempty, length-decimal-le}
use Rattle.std.proofs.lemmas.Bool.{cases_Bool, ltb-true, ltb-false}
use Rattle.money.specs.Text.{money_text}
use Rattle.std.specs.Fmt.{padded_integral, format_spec, char_count}

-- a number's last digits, as many as are asked
abbrev last_digits : ℕ → ℕ → List ℕ
last_digits zero n = []
last_digits (suc k) n = last_digits k (n / 10) ++ ((48 + n % 10) ∷ [])

zeros : (k : ℕ) → last_digits k 0 ≡ replicate k 48
zeros zero = refl
zeros (suc k) = ap (λ front. front ++ (48 ∷ [])) (zeros k) ∙ replicate_more k 48 ∙ ap (λ n. replicate n 48) (add-one k)

-- with zeros before them, the digits of a number that has no more
module _ (k n : ℕ) (fits : n < 2 ^ 64) where
  one_digit : ltb n 10 ≡ true → replicate (suc k - length (decimal n)) 48 ++ decimal n ≡ last_digits (suc k) n
  one_digit is =
      let one : n < 10 = ltb-true n 10 is in
      let front : n / 10 ≡ 0 = omega arith in
      let own : n % 10 ≡ n = omega arith in
      let places : suc k - 1 ≡ k = omega arith in
      rw (decimal_digit n one, front, own, zeros k, places) refl

  more_digits : (10 ≤ n → replicate (k - length (decimal (n / 10))) 48 ++ decimal (n / 10) ≡ last_digits k (n / 10)) → ltb n 10 ≡ false → replicate (suc k - length (decimal n)) 48 ++ decimal n ≡ last_digits (suc k) n
  more_digits fronts is =
      let more = ltb-false n 10 is in
      let places : suc k - length (decimal (n / 10) ++ ((48 + n % 10) ∷ [])) ≡ k - length (decimal (n / 10)) = simp length-append (omega arith) in
      rw (decimal_step n more fits, places) (sym (append_assoc (replicate (k - length (decimal (n / 10))) 48) (decimal (n / 10)) ((48 + n % 10) ∷ [])) ∙ ap (λ front. front ++ ((48 + n % 10) ∷ [])) (fronts more))

filled : (k n : ℕ) → 0 < k → length (decimal n) ≤ k → n < 2 ^ 64 → replicate (k - length (decimal n)) 48 ++ decimal n ≡ last_digits k n
filled zero n some few fits = absurd (omega arith)
filled (suc k) n some few fits =
    ⊎_elim (λ is. one_digit k n fits is)
    (λ is. more_digits k n fits (λ more. filled k (n / 10) (front_some more) (front_few more) (omega arith)) is)
    (cases_Bool (ltb n 10))
  where
    longer : 10 ≤ n → length (decimal n) ≡ length (decimal (n / 10)) + 1
    longer more = rw (decimal_step n more fits) (length-append (decimal (n / 10)) ((48 + n % 10) ∷ []))

    front_few : 10 ≤ n → length (decimal (n / 10)) ≤ k
    front_few more = let e = longer more in omega arith

    front_some : 10 ≤ n → 0 < k
    front_some more = let e = longer more in let nonempty = decimal_nonempty (n / 10) (omega arith) in omega arith

-- a hole of six places puts zeros before the digits
padded : (numeral : List ℕ) → padded_integral (format_spec 32 0 4 6 (2 ^ 64 - 1)) false [] numeral ≡ replicate (6 - length numeral) 48 ++ numeral
unfolding padded_integral char_count
padded numeral =
    let places : 6 - length numeral - 0 - 0 ≡ 6 - length numeral = omega arith in
    rw (places, append-nil numeral) refl

pub six_places : (n : ℕ) → n < 1000000 → padded_integral (format_spec 32 0 4 6 (2 ^ 64 - 1)) false [] (decimal n)
    ≡ decimal (n / 100000 % 10) ++ (decimal (n / 10000 % 10) ++ (decimal (n / 1000 % 10) ++ (decimal (n / 100 % 10) ++ (decimal (n / 10 % 10) ++ decimal (n % 10)))))
six_places n small =
    let few = length-decimal-le 6 n (omega arith) (omega arith) (omega arith) in
    let a : n / 10 / 10 ≡ n / 100 = omega arith in
    let b : n / 10 / 10 / 10 ≡ n / 1000 = omega arith in
    let c : n / 10 / 10 / 10 / 10 ≡ n / 10000 = omega arith in
    let d : n / 10 / 10 / 10 / 10 / 10 ≡ n / 100000 = omega arith in
    padded (decimal n) ∙ filled 6 n (omega arith) few (omega arith) ∙
    rw (decimal_digit (n / 100000 % 10) (omega arith), decimal_digit (n / 10000 % 10) (omega arith), decimal_digit (n / 1000 % 10) (omega arith), decimal_digit (n / 100 % 10) (omega arith), decimal_digit (n / 10 % 10) (omega arith), decimal_digit (n % 10) (omega arith), d, c, b, a) refl

pub padded_money : (n : ℕ) → decimal (n / 1000000) ++ (codes "." ++ padded_integral (format_spec 32 0 4 6 (2 ^ 64 - 1)) false [] (decimal (n % 1000000))) ≡ money_text n
padded_money n =
    let a : n % 1000000 / 100000 % 10 ≡ n / 100000 % 10 = omega arith in
    let b : n % 1000000 / 10000 % 10 ≡ n / 10000 % 10 = omega arith in
    let c : n % 1000000 / 1000 % 10 ≡ n / 1000 % 10 = omega arith in
    let d : n % 1000000 / 100 % 10 ≡ n / 100 % 10 = omega arith in
    let e : n % 1000000 / 10 % 10 ≡ n / 10 % 10 = omega arith in
    let f : n % 1000000 % 10 ≡ n % 10 = omega arith in
    rw (six_places (n % 1000000) (omega arith), a, b, c, d, e, f) refl
