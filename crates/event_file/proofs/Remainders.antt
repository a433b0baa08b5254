-- Remainders modulo 65,521 of numbers to base 256.
use Rattle.std.proofs.Common.{◌≡◌, ℕ, ◌+◌, ◌*◌, ◌/◌, ◌%◌, List, [], ◌∷◌, fold, sym, refl, ap, ◌∙◌, arith}
use native.Mathlib.Nat.{add-mul-mod_self_left}

abbrev pub with_byte : ℕ → ℕ → ℕ
with_byte r b = (r * 256 + b) % 65521

-- the remainder of a number with one more byte depends on the number's remainder alone
horner : (v b : ℕ) → with_byte (v % 65521) b ≡ with_byte v b
horner v b =
    let split : v * 256 + b ≡ (v % 65521 * 256 + b) + 65521 * (v / 65521 * 256) = omega arith in
    sym (ap (λ x. x % 65521) split ∙ add-mul-mod_self_left (v % 65521 * 256 + b) 65521 (v / 65521 * 256))

-- the remainders of each byte in turn come to the remainder of the whole
pub rest_of : (bs : List ℕ) (v : ℕ) → fold with_byte (v % 65521) bs ≡ fold (λ n b. n * 256 + b) v bs % 65521
rest_of [] v = refl
rest_of (b ∷ bs) v = ap (λ r. fold with_byte r bs) (horner v b) ∙ rest_of bs (v * 256 + b)
