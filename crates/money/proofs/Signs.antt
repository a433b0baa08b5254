-- The text of a difference tells it.
use Rattle.std.proofs.Common.{◌≡◌, ℕ, zero, suc, ◌+◌, ◌/◌, ◌^◌, ◌<◌, ◌≤◌, Bool, true, false, ltb, List, [], ◌∷◌, ◌++◌, length, get_or, drop, decimal, sym, refl, ap, ◌∙◌, arith}
use Rattle.std.proofs.lemmas.Fmt.{decimal_digit, decimal_nonempty, first_decimal}
use Rattle.std.proofs.lemmas.Bool.{ltb-true, ltb-false}
use Rattle.money.specs.Text.{money_text}
use Rattle.money.specs.Signs.{apart, signed_text, SignTold}
use Rattle.money.proofs.Apart.{no_loss}

-- an amount begins with a digit, and not with a sign
digit_first : (n : ℕ) → n < 2 ^ 64 → 48 ≤ get_or (decimal n) 0 0
digit_first zero small = let h = ap (λ l. get_or l 0 0) (decimal_digit 0 (omega arith)) in omega arith
digit_first (suc n) small = omega (arith, first_decimal (suc n) (omega arith) small)

front : (xs ys : List ℕ) → 0 < length xs → get_or (xs ++ ys) 0 0 ≡ get_or xs 0 0
front [] ys some = absurd (omega arith)
front (x ∷ xs) ys some = refl

begins : (n : ℕ) → n < 2 ^ 64 → 48 ≤ get_or (money_text n) 0 0
begins n small =
    let euros : n / 1000000 < 2 ^ 64 = omega arith in
    let same : get_or (money_text n) 0 0 ≡ get_or (decimal (n / 1000000)) 0 0 = front (decimal (n / 1000000)) _ (decimal_nonempty (n / 1000000) euros) in
    omega (arith, digit_first (n / 1000000) euros)

-- texts with one sign have one amount, and no two signs have one text
same_signed : (p q : Bool) (m n : ℕ) → m < 2 ^ 64 → n < 2 ^ 64 → signed_text p m ≡ signed_text q n → (p ≡ q) × (m ≡ n)
same_signed true true m n small fits same = (refl, no_loss m n small fits (ap (drop 1) same))
same_signed true false m n small fits same = absurd (omega (arith, begins n fits, ap (λ l. get_or l 0 0) same))
same_signed false true m n small fits same = absurd (omega (arith, begins m small, ap (λ l. get_or l 0 0) same))
same_signed false false m n small fits same = (refl, no_loss m n small fits same)

pub sign_told : SignTold
sign_told a b c d fa fb fc fd same =
    let both = same_signed (ltb a b) (ltb c d) (apart a b) (apart c d) (omega arith) (omega arith) same in go (ltb a b) refl both.0 both.1
  where
    go : (p : Bool) → ltb a b ≡ p → ltb a b ≡ ltb c d → apart a b ≡ apart c d → a + d ≡ c + b
    go true is signs far = omega (arith, ltb-true a b is, ltb-true c d (sym signs ∙ is))
    go false is signs far = omega (arith, ltb-false a b is, ltb-false c d (sym signs ∙ is))
