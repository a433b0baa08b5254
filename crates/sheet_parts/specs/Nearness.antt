-- Both roundings miss a fraction by less than one.
use Rattle.std.specs.Prelude.{◌≡◌, ℕ, ◌+◌, ◌*◌, ◌/◌, ◌%◌, ◌<◌, Bool, false, ◌≢◌, nat_le, nat_lt, refl}
use Rattle.std.proofs.Common.{ap, ◌∙◌, add-mul, div-add-mod', mod-lt, arith, ⊎_elim}
use Rattle.std.proofs.Math.Nat.{zero-div}
use Rattle.std.proofs.lemmas.Bool.{cond_both, cases_eq, both_ways}
use Rattle.tariff.specs.Meaning.{Near}
use Rattle.sheet_parts.specs.Rounding.{seventh_decimal, up_if, five_down, five_up}

-- a seventh decimal above 0 tells of a rest
rest_of : (n d : ℕ) → (seventh_decimal n d ≢ 0) → 0 < n % d
rest_of n d some =
    ⊎_elim (λ none. absurd (some (ap (λ rest. rest * 10 / d) none ∙ zero-div d)))
    (λ rest. omega arith) (cases_eq (n % d) 0)

-- rounding that never goes up at a seventh decimal of 0
pub near_up_if : (test : ℕ → Bool) → test 0 ≡ false → (n d : ℕ) → 0 < d → Near n d (up_if test n d)
near_up_if test stays n d some =
    let split = div-add-mod' n d in
    let rest = mod-lt n some in
    let next : (n / d + 1) * d ≡ n / d * d + d =
    add-mul (n / d) 1 d ∙ ap (λ x. n / d * d + x) (omega arith) in
    cond_both (test (seventh_decimal n d)) (n / d + 1) (n / d) (Near n d)
    (λ up.
    let above = rest_of n d (λ zero. both_ways (test (seventh_decimal n d))
    (ap test zero ∙ stays) up) in
    record { over = omega arith; under = omega arith })
    (λ down. record { over = omega arith; under = omega arith })

pub near_five_down : (n d : ℕ) → 0 < d → Near n d (five_down n d)
near_five_down = near_up_if (nat_lt 5) refl

pub near_five_up : (n d : ℕ) → 0 < d → Near n d (five_up n d)
near_five_up = near_up_if (nat_le 5) refl
