-- The checks of an order made one after the other give the first refusal of them all.
use Rattle.std.proofs.Common.{◌≡◌, ℕ, ◌-◌, List, [], ◌∷◌, Ok, Err, sym, ap, ◌∙◌, subst}
use Rattle.std.proofs.lemmas.Bool.{not-false}
use Rattle.refusal.specs.Checks.{Check, first, passing, in_turn}
use Rattle.refusal.specs.declared.Refusal.{Refusal}
use Rattle.refusal.proofs.First.{passed, let_through, later_places, refused_here}
use Rattle.calendar.specs.Days.{within}
use Rattle.tariff.specs.Meaning.{Meaning, Lawful}
use Rattle.links.specs.Tables.{row_of, metres_check, fibres_check, row_checked, column_checked}
use Rattle.links.specs.Quotations.{date_checks, coefficient_check, basis_checked, cell_of, placed, CellLimits}
use Rattle.links.specs.declared.order.Order.{Order}
use Rattle.links.specs.declared.quotation.Basis.{Basis}
use Rattle.links.proofs.CellLimits as limits

module _ (m : Meaning) (o : Order) where
  -- the checks from each one on
  abbrev from_column : List (List Check)
  from_column = (fibres_check o.fibres ∷ []) ∷ []

  abbrev from_row : List (List Check)
  from_row = (metres_check o.metres ∷ []) ∷ from_column

  abbrev from_basis : List (List Check)
  from_basis = (coefficient_check m o ∷ []) ∷ from_row

  module _ (u : Unit {0}) (real : passing (date_checks o) ≡ Ok u) where
    past_dates : in_turn from_basis (cell_of m o) ≡ placed m o
    past_dates = later_places (date_checks o) from_basis (cell_of m o) tt u real

    module _ (b : Basis) (based : basis_checked m o ≡ Ok b) where
      past_basis : in_turn from_row (cell_of m o) ≡ placed m o
      past_basis = later_places (coefficient_check m o ∷ []) from_row (cell_of m o) _ b based ∙ past_dates

      module _ (row : ℕ) (in_row : row_checked o.metres ≡ Ok row) where
        past_row : in_turn from_column (cell_of m o) ≡ placed m o
        past_row = later_places (metres_check o.metres ∷ []) from_column (cell_of m o) _ row in_row ∙ past_basis

        pub by_column : (e : Refusal) → column_checked o.fibres ≡ Err e → Err e ≡ placed m o
        by_column e is = refused_here (fibres_check o.fibres ∷ []) [] (cell_of m o) _ e is ∙ past_row

        module _ (column : ℕ) (in_column : column_checked o.fibres ≡ Ok column) where
          -- what the four checks let through
          same_cell : cell_of m o ≡ record { basis = b; row = row; column = column }
          same_cell =
              let is_basis = let_through (first (coefficient_check m o ∷ [])) _ b based in
              let is_row = let_through (first (metres_check o.metres ∷ [])) _ row in_row in
              let is_column = let_through (first (fibres_check o.fibres ∷ [])) _ column in_column in
              (λ i. record { basis = is_basis i; row = is_row i; column = is_column i })

          pub found_cell : Ok (record { basis = b; row = row; column = column }) ≡ placed m o
          found_cell =
              ap Ok (sym same_cell)
              ∙ later_places (fibres_check o.fibres ∷ []) [] (cell_of m o) _ column in_column
              ∙ past_row

          pub found_limits : Lawful m → CellLimits (record { basis = b; row = row; column = column })
          found_limits law =
              let inside : CellLimits (cell_of m o) = record {
                basis_limits = limits.basis_limits m law o (limits.dates_real o u real);
                row_limit = limits.row_limit o.metres (not-false (within 1 o.metres 16000) (passed (metres_check o.metres) (row_of o.metres) row in_row));
                column_limit = limits.column_limit o.fibres (not-false (within 1 o.fibres 6) (passed (fibres_check o.fibres) (o.fibres - 1) column in_column));
              } in
              subst CellLimits same_cell inside

    pub by_basis : (e : Refusal) → basis_checked m o ≡ Err e → Err e ≡ placed m o
    by_basis e is = refused_here (coefficient_check m o ∷ []) from_row (cell_of m o) _ e is ∙ past_dates

  pub by_dates : (e : Refusal) → passing (date_checks o) ≡ Err e → Err e ≡ placed m o
  by_dates e is = refused_here (date_checks o) from_basis (cell_of m o) tt e is
