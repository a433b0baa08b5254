-- What rounded shares of one amount hold back or overpay: less than one for each share.
use Rattle.std.proofs.Common.{◌≡◌, ℕ, zero, suc, ◌+◌, ◌-◌, ◌*◌, ◌<◌, ◌≤◌, List, [], ◌∷◌, subst, add-zero, add-mul, lt_of_mul-lt-mul_right, one-mul, mul-zero, zero-mul, mul-one, mul-suc, mul-add, le_of_mul-le-mul_right, arith}
use Rattle.tariff.specs.Meaning.{Meaning, Lawful}
use Rattle.tariff.specs.Bounds.{most_denominator, most_rounded}
use Rattle.book.specs.Lists.{total}
use Rattle.book.specs.Sharing.{share, due}

-- x and y differ by less than n, and are equal where n is 0
abbrev pub Within : ℕ → ℕ → ℕ → Type 0
Within n x y = (x ≤ y + (n - 1)) × (y ≤ x + (n - 1))

abbrev Close : ℕ → ℕ → ℕ → Type 0
Close n x y = (x ≤ y + n) × (y ≤ x + n)

pub within_add : (m n x y u v : ℕ) → Within m x y → Within n u v → Within (m + n) (x + u) (y + v)
within_add m n x y u v p q = omega arith

-- one share times the whole weight misses its exact part by at most w - 1, and by nothing where none is due
one : (m : Meaning) → Lawful m → (a v w : ℕ) → a * v ≤ most_rounded → 0 < w → w ≤ most_denominator →
    Close (due a v * (w - 1)) (share m a v w 1 * w) (a * v)
one m law zero v w fits pos few = simp zero-mul (omega arith)
one m law (suc a) zero w fits pos few = simp (mul-zero, zero-mul) (omega arith)
one m law (suc a) (suc v) w fits pos few =
    let n = law.near (suc a * suc v) w fits pos few in simp (one-mul, mul-one) (omega arith)

module _ {A : Type 0} (weight : A → ℕ) where
  many : (m : Meaning) → Lawful m → (a w : ℕ) → 0 < w → w ≤ most_denominator → (xs : List A) → a * total weight xs ≤ most_rounded →
      Close (total (λ x. due a (weight x)) xs * (w - 1)) (total (λ x. share m a (weight x) w 1) xs * w) (a * total weight xs)
  many m law a w pos few [] fits = simp (mul-zero, zero-mul) (omega arith)
  many m law a w pos few (x ∷ xs) fits =
      let e : a * (weight x + total weight xs) ≡ a * weight x + a * total weight xs = mul-add a (weight x) (total weight xs) in
      let h : Close (due a (weight x) * (w - 1)) (share m a (weight x) w 1 * w) (a * weight x) = one m law a (weight x) w (omega arith) pos few in
      let t = many m law a w pos few xs (omega arith) in
      simp (add-mul, mul-add) (omega arith)

-- what c misses of w - 1 each, out of whole multiples of w
whole : (c w x a : ℕ) → 0 < w → x * w ≤ a * w + c * (w - 1) → x ≤ a + (c - 1)
whole c zero x a pos h = absurd (omega arith)
whole zero (suc w) x a pos h =
    let k : x * suc w ≤ a * suc w = simp (zero-mul, add-zero) at h in let l : x ≤ a = le_of_mul-le-mul_right k pos in omega arith
whole (suc c) (suc w) x a pos h =
    let e : suc w - 1 ≡ w = omega arith in
    let l : x * suc w ≤ a * suc w + suc c * w = subst (λ (n : ℕ). x * suc w ≤ a * suc w + suc c * n) e h in
    let m : suc c * suc w ≡ suc c * w + suc c = mul-suc (suc c) w in
    let d : (a + suc c) * suc w ≡ a * suc w + suc c * suc w = add-mul a (suc c) (suc w) in
    let q : x < a + suc c = lt_of_mul-lt-mul_right (suc w) (omega arith) in omega arith

-- the shares of an amount, by the weights of a list, and the amount
pub conserved : {A : Type 0} (weight : A → ℕ) (m : Meaning) → Lawful m → (a : ℕ) (xs : List A) → a * total weight xs ≤ most_rounded → 0 < total weight xs → total weight xs ≤ most_denominator →
    Within (total (λ x. due a (weight x)) xs) a (total (λ x. share m a (weight x) (total weight xs) 1) xs)
conserved weight m law a xs fits pos few =
    let h = many weight m law a (total weight xs) pos few xs fits in (
      whole (total (λ x. due a (weight x)) xs) (total weight xs) a _ pos h.1,
      whole (total (λ x. due a (weight x)) xs) (total weight xs) _ a pos h.0,
    )
