-- The coarse sheet keeps the limits of a tariff.
use Rattle.std.proofs.Common.{◌≡◌, ℕ, ◌+◌, ◌-◌, ◌*◌, ◌/◌, ◌<◌, Bool, true, false, cond, ltb, refl, div-mul-le_self, arith}
use native.Mathlib.Nat.{lt-div-mul-add}
use Rattle.std.proofs.lemmas.Bool.{ltb-true}
use Rattle.tariff.specs.Meaning.{Lawful, Near}
use Rattle.book.specs.Coarse.{coarse_rounded, coarse}

coarse_near : (n d : ℕ) → 0 < d → Near n d (coarse_rounded n d)
coarse_near n d pos = go (ltb n d) refl
  where
    go : (b : Bool) → ltb n d ≡ b → Near n d (cond b 0 ((n + (d - 1)) / d))
    go true e = let h = ltb-true n d e in record { over = omega arith; under = omega arith }
    go false e =
        let a = div-mul-le_self (n + (d - 1)) d in
        let b : n + (d - 1) < (n + (d - 1)) / d * d + d = lt-div-mul-add pos in
        record { over = omega arith; under = omega arith }

pub coarse_lawful : Lawful coarse
coarse_lawful = record {
  prices = λ kind installed real. record { some = omega arith; most = omega arith };
  coefficients = λ installed receipt p q. record { some = omega arith; small = omega arith; most = omega arith; four = omega arith };
  contributions = omega arith;
  weights = λ index few. omega arith;
  near = λ n d most some small. coarse_near n d some;
}
