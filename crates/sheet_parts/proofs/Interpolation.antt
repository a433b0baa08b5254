-- A mean of two numbers lies between them.
use Rattle.std.proofs.Common.{◌≡◌, ℕ, ◌+◌, ◌-◌, ◌*◌, ◌≤◌, ap, ◌∙◌, ⊎_elim, add-mul, mul-le-mul_left, arith}
use Rattle.std.proofs.lemmas.Bool.{cases_lt}
use Rattle.sheet_parts.specs.Row.{Between}

-- 12−y parts of a and y parts of b
pub mean_between : (y a b : ℕ) → y ≤ 12 → Between (12 * a) ((12 - y) * a + y * b) (12 * b)
mean_between y a b few =
    let whole_a : 12 * a ≡ (12 - y) * a + y * a = ap (λ n. n * a) (omega arith) ∙ add-mul (12 - y) y a in
    let whole_b : 12 * b ≡ (12 - y) * b + y * b = ap (λ n. n * b) (omega arith) ∙ add-mul (12 - y) y b in
    ⊎_elim
    (λ less.
    let le : a ≤ b = omega arith in
    let front = mul-le-mul_left (12 - y) le in
    let back = mul-le-mul_left y le in
    record { low = omega arith; high = omega arith })
    (λ le.
    let front = mul-le-mul_left (12 - y) le in
    let back = mul-le-mul_left y le in
    record { low = omega arith; high = omega arith })
    (cases_lt a b)
