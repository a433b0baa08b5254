-- What a link or an extra fibre costs on a sheet, and when an order is refused.
--   basis_of         ab initio, or ex post with the sheet's coefficient; none where a coefficient
--                    is wanted and missing
--   checks           the conditions that refuse an order, in their order
--   link_quotation   the answer for a link
--   fibre_quotation  the answer for an extra fibre on one
use Rattle.std.specs.Prelude.{ℕ, ◌-◌, ◌*◌, ◌<◌, min, cond, not, List, [], ◌∷◌, is_some, Some, None, Option, Result, nat_lt}
use Rattle.std.specs.Option.{option_map, unwrap_or}
use Rattle.refusal.specs.Checks.{Check, ◌⇒◌, first, unless, in_turn}
use Rattle.refusal.specs.declared.Refusal.{Refusal}
use Rattle.refusal.specs.declared.Refusal.TheVariants.{NoCoefficient}
use Rattle.checks.specs.Numbers.{date_check}
use Rattle.tariff.specs.Meaning.{Meaning, CoefficientLimits}
use Rattle.links.specs.Tables.{rows, most_fibres, row_of, initial, reference, extra, price_at, metres_check, fibres_check}
use Rattle.links.specs.declared.order.Order.{Order}
use Rattle.links.specs.declared.quotation.Basis.{Basis}
use Rattle.links.specs.declared.quotation.Basis.TheVariants.{AbInitio, ExPost}
use Rattle.links.specs.declared.quotation.Quotation.{Quotation}
use Rattle.links.specs.declared.quotation.Cell.{Cell}

-- A link is ab initio unless the PM's service date is known and before the order.
abbrev pub basis_on : Meaning → Option ℕ → ℕ → Option Basis
basis_on m None ordered = Some AbInitio
basis_on m (Some service) ordered =
    cond (nat_lt service ordered)
    (option_map ExPost (m.coefficient service ordered)) (Some AbInitio)

-- The basis of an order.
abbrev pub basis_of : Meaning → Order → Option Basis
basis_of m o = basis_on m o.service o.ordered

-- A date that may not be known is checked where it is.
abbrev pub known_date_checks : Option ℕ → List Check
known_date_checks None = []
known_date_checks (Some date) = date_check date ∷ []

-- The order date, and the service date where it is known, are real.
abbrev pub date_checks : Order → List Check
date_checks o = date_check o.ordered ∷ known_date_checks o.service

-- An ex post basis has its coefficient.
abbrev pub coefficient_check : Meaning → Order → Check
coefficient_check m o = not (is_some (basis_of m o)) ⇒ NoCoefficient

-- All checks of an order, in their order: its dates, its basis, its length and its fibres.
abbrev pub checks : Meaning → Order → List (List Check)
checks m o =
    date_checks o ∷
    (coefficient_check m o ∷ []) ∷
    (metres_check o.metres ∷ []) ∷
    (fibres_check o.fibres ∷ []) ∷ []

-- The check of the basis alone, with what it lets through.
abbrev pub basis_checked : Meaning → Order → Result Basis Refusal
basis_checked m o = unless (first (coefficient_check m o ∷ [])) (unwrap_or (basis_of m o) AbInitio)

-- The tariff's limits on the coefficient of an ex post basis.
abbrev pub BasisLimits : Basis → Type 0
BasisLimits AbInitio = Unit {0}
BasisLimits (ExPost c) = CoefficientLimits c

-- What an order that no check refuses is priced by: its basis, and its row and column in the
-- tables.
abbrev pub cell_of : Meaning → Order → Cell
cell_of m o = record {
  basis = unwrap_or (basis_of m o) AbInitio;
  row = row_of o.metres;
  column = o.fibres - 1;
}

-- The cell of an order, or the first check that refuses it.
abbrev pub placed : Meaning → Order → Result Cell Refusal
placed m o = in_turn (checks m o) (cell_of m o)

-- A basis within the tariff's limits, a row and a column that the tables have.
pub record CellLimits (p : Cell) : Type 0 where
  pub basis_limits : BasisLimits p.basis
  pub row_limit : p.row < rows
  pub column_limit : p.column < most_fibres

-- Ab initio the first price; ex post the second, times the coefficient, rounded by the sheet.
abbrev pub price_on : Meaning → Basis → ℕ → ℕ → ℕ
price_on m AbInitio first_price reference_price = first_price
price_on m (ExPost c) first_price reference_price =
    m.rounded (reference_price * c.numerator) c.denominator

-- The price of a cell, by the prices that two tables have there.
abbrev pub quoted : Meaning → Cell → ℕ → ℕ → Quotation
quoted m p first_price reference_price = record {
  basis = p.basis;
  price = price_on m p.basis first_price reference_price;
}

-- No reference price passes 16,572 euros.
abbrev pub most_reference : ℕ
most_reference = 16572000000

-- The price of a link in a cell.
abbrev pub link_at : Meaning → Cell → Quotation
link_at m p = quoted m p (price_at initial p.row p.column) (price_at reference p.row p.column)

-- The price of an extra fibre in a cell. Five and more first-ordered fibres share a column.
abbrev pub fibre_at : Meaning → Cell → Quotation
fibre_at m p =
    let price = price_at extra p.row (min p.column 4) in
    quoted m p price price

-- The answer for a link.
abbrev pub link_quotation : Meaning → Order → Result Quotation Refusal
link_quotation m o = in_turn (checks m o) (link_at m (cell_of m o))

-- The answer for an extra fibre on one.
abbrev pub fibre_quotation : Meaning → Order → Result Quotation Refusal
fibre_quotation m o = in_turn (checks m o) (fibre_at m (cell_of m o))
