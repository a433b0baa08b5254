-- A quotient compared with a number, without a division.
use Rattle.std.proofs.Common.{◌≡◌, ℕ, ◌*◌, ◌/◌, ◌<◌, leb, sym, ◌∙◌, ⊎_elim, arith}
use Rattle.std.proofs.lemmas.Bool.{le-leb}
use Rattle.std.proofs.lemmas.Bool.Decides.{leb_tells}
use Rattle.std.proofs.Math.Nat.{le-div_iff_mul-le}

pub compared : (least r d : ℕ) → 0 < d → leb (least * d) r ≡ leb least (r / d)
compared least r d some = ⊎_elim
    (λ yes. le-leb (least * d) r ((le-div_iff_mul-le some).0 yes.1) ∙ sym yes.0)
    (λ no. ⊎_elim
    (λ yes'. let le = (le-div_iff_mul-le some).1 yes'.1 in absurd (omega (arith, le, no.1)))
    (λ no'. no'.0 ∙ sym no.0)
    (leb_tells (least * d) r))
    (leb_tells least (r / d))
