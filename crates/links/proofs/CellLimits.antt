-- An order that no check refuses has a coefficient within the tariff's limits, and a place inside the tables.
use Rattle.std.proofs.Common.{◌≡◌, ℕ, ◌-◌, ◌<◌, Bool, true, false, not, T, ltb, leb, List, [], ◌∷◌, Some, None, Ok, Option, unwrap_or, arith}
use Rattle.std.specs.Option.{option_map}
use Rattle.std.proofs.lemmas.Bool.{cond_both, and_parts, leb-true}
use Rattle.std.proofs.lemmas.Bool.Decides.{nat_tests}
use Rattle.refusal.specs.Checks.{Check, ◌⇒◌, passing}
use Rattle.refusal.specs.declared.Refusal.{Refusal}
use Rattle.refusal.specs.declared.Refusal.TheVariants.{NoDate}
use Rattle.calendar.specs.Days.{is_date, within}
use Rattle.tariff.specs.Meaning.{Meaning, Lawful, Answered, CoefficientLimits}
use Rattle.tariff.specs.declared.kinds.Coefficient.{Coefficient}
use Rattle.links.specs.Tables.{row_of}
use Rattle.links.specs.Quotations.{known_date_checks, date_checks, basis_on, basis_of, BasisLimits}
use Rattle.links.specs.declared.order.Order.{Order}
use Rattle.links.specs.declared.quotation.Basis.TheVariants.{AbInitio, ExPost}

-- what the check of the dates tells
abbrev RealIfKnown : Option ℕ → Type 0
RealIfKnown None = Unit {0}
RealIfKnown (Some date) = T (is_date date)

pub record DatesReal (o : Order) : Type 0 where
  pub ordered : T (is_date o.ordered)
  pub known : RealIfKnown o.service

real_of : (b : Bool) (r : Refusal) (checks : List Check) (u : Unit {0}) → passing ((not b ⇒ r) ∷ checks) ≡ Ok u → T b
real_of true r checks u is = tt
real_of false r checks u is = let no : ◌≡◌ {A = ℕ} 0 1 = cc in absurd (omega arith)

rest_of : (b : Bool) (r : Refusal) (checks : List Check) (u : Unit {0}) → passing ((not b ⇒ r) ∷ checks) ≡ Ok u → passing checks ≡ Ok u
rest_of true r checks u is = is
rest_of false r checks u is = let no : ◌≡◌ {A = ℕ} 0 1 = cc in absurd (omega arith)

known_real : (service : Option ℕ) (u : Unit {0}) → passing (known_date_checks service) ≡ Ok u → RealIfKnown service
known_real None u is = tt
known_real (Some date) u is = real_of (is_date date) NoDate [] u is

pub dates_real : (o : Order) (u : Unit {0}) → passing (date_checks o) ≡ Ok u → DatesReal o
dates_real o u is = record {
  ordered = real_of (is_date o.ordered) NoDate (known_date_checks o.service) u is;
  known = known_real o.service u (rest_of (is_date o.ordered) NoDate (known_date_checks o.service) u is);
}

from_coefficient : (o : Option Coefficient) → Answered CoefficientLimits o → BasisLimits (unwrap_or (option_map ExPost o) AbInitio)
from_coefficient None limits = tt
from_coefficient (Some c) limits = limits

on_limits : (m : Meaning) → Lawful m → (service : Option ℕ) (ordered : ℕ) → T (is_date ordered) → RealIfKnown service → BasisLimits (unwrap_or (basis_on m service ordered) AbInitio)
on_limits m law None ordered real known = tt
on_limits m law (Some service) ordered real known =
    cond_both (ltb service ordered) (option_map ExPost (m.coefficient service ordered)) (Some AbInitio) (λ o. BasisLimits (unwrap_or o AbInitio))
    (λ _. from_coefficient (m.coefficient service ordered) (law.coefficients service ordered known real))
    (λ _. tt)

pub basis_limits : (m : Meaning) → Lawful m → (o : Order) → DatesReal o → BasisLimits (unwrap_or (basis_of m o) AbInitio)
basis_limits m law o real = on_limits m law o.service o.ordered real.ordered real.known

pub row_limit : (metres : ℕ) → within 1 metres 16000 ≡ true → row_of metres < 9
row_limit metres inside = grind (arith, nat_tests)

pub column_limit : (fibres : ℕ) → within 1 fibres 6 ≡ true → fibres - 1 < 6
column_limit fibres inside =
    let most = leb-true fibres 6 (and_parts (leb 1 fibres) (leb fibres 6) inside).1 in omega arith
