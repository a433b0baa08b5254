-- Examples that compute: tables and figures at the limits, and tables other than those that an
-- event was billed on.
use Rattle.std.specs.Prelude.{◌≡◌, ℕ, ◌+◌, List, [], ◌∷◌, replicate, Some, Option, map}
use Rattle.tariff.specs.declared.kinds.Kind.TheVariants.{Covered}
use Rattle.book.specs.Limits.{most_amount}
use Rattle.book.specs.Zone.{State, with_totals}
use Rattle.book.specs.Calls.{raise, opening, share_out}
use Rattle.book.specs.Runs.{◌on◌, answer_at, said, lived}
use Rattle.book.specs.declared.entries.RollEntry.{RollEntry}
use Rattle.book.specs.declared.entries.RegisterEntry.{RegisterEntry}
use Rattle.book.specs.declared.figures.Totals.{Totals}
use Rattle.worked_sums.specs.Sheets.{sheet_up}
use Rattle.worked_sums.specs.Cases.{launched_zone, balances, moved}
use Rattle.worked_sums.specs.RefusalOrder.{one_object, open_levy}

-- An operator with tranches of index 0 and of index 5.
abbrev pub operator_with : ℕ → ℕ → ℕ → ℕ → RollEntry
operator_with number tranches later balance = record {
  operator = number;
  tranches = tranches ∷ 0 ∷ 0 ∷ 0 ∷ 0 ∷ later ∷ replicate 35 0;
  balance = balance;
}

-- A PM by number, date and dwellings.
abbrev pub object_with : ℕ → ℕ → ℕ → RegisterEntry
object_with number installed dwellings =
    record { object = number; kind = Covered; installed = installed; dwellings = dwellings }

-- A state with another roll, another register, other totals.
abbrev pub on_roll : State → List RollEntry → State
on_roll s roll = record s { tables = record s.tables { roll = roll } }

abbrev pub on_register : State → List RegisterEntry → State
on_register s register = record s { tables = record s.tables { register = register } }

abbrev pub on_totals : State → Totals → State
on_totals s totals = record s { figures = with_totals totals s.figures }

abbrev pub totals_with : ℕ → ℕ → ℕ → ℕ → Totals
totals_with contributed credited unshared lines = record {
  contributed = contributed;
  credited = credited;
  unshared = unshared;
  credit_lines = lines;
}

-- What an opening is answered, and on each of these rolls, registers and totals.
abbrev pub opening_told : State → Option ℕ
opening_told s = said (answer_at sheet_up s (opening 20180101 9 1 on 2))

abbrev pub on_rolls : List (List RollEntry) → List (Option ℕ)
on_rolls rolls = map (λ roll. opening_told (on_roll launched_zone roll)) rolls

abbrev pub on_registers : List (List RegisterEntry) → List (Option ℕ)
on_registers registers = map (λ register. opening_told (on_register one_object register)) registers

abbrev pub on_each_totals : List Totals → List (Option ℕ)
on_each_totals each = map (λ totals. opening_told (on_totals launched_zone totals)) each

-- What a levy's share-out is answered on each of these rolls.
abbrev pub shares_on : State → List (List RollEntry) → List (Option ℕ)
shares_on levy rolls =
    map (λ roll. said (answer_at sheet_up (on_roll levy roll) (share_out on 9))) rolls

-- The first operator raises from 4 to 9 tranches.
abbrev pub raise_levy : State
raise_levy = lived sheet_up one_object (raise 20200101 1 9 on 2 ∷ [])

-- Its share-out on a roll where the first operator has two tranches more, of a later index.
abbrev pub later_roll : List RollEntry
later_roll = operator_with 1 4 2 0 ∷ operator_with 2 2 0 0 ∷ []

abbrev pub later_shared : State
later_shared = lived sheet_up (on_roll raise_levy later_roll) (share_out on 2 ∷ [])

-- The limit of an amount.
abbrev pub most : ℕ
most = most_amount

pub record TablesLimited : Type 0 where
  -- fit; number 0; a number twice; no tranche; 21 tranches; the largest balance; one above it;
  -- one entry too few
  pub rolls : on_rolls (
      (operator_with 1 4 0 0 ∷ operator_with 2 15 5 0 ∷ []) ∷
      (operator_with 0 4 0 0 ∷ operator_with 2 2 0 0 ∷ []) ∷
      (operator_with 2 4 0 0 ∷ operator_with 2 2 0 0 ∷ []) ∷
      (operator_with 1 4 0 0 ∷ operator_with 2 0 0 0 ∷ []) ∷
      (operator_with 1 4 0 0 ∷ operator_with 2 15 6 0 ∷ []) ∷
      (operator_with 1 4 0 most ∷ operator_with 2 2 0 0 ∷ []) ∷
      (operator_with 1 4 0 (most + 1) ∷ operator_with 2 2 0 0 ∷ []) ∷
      (operator_with 1 4 0 0 ∷ []) ∷ []) ≡
      Some 0 ∷ Some 1 ∷ Some 1 ∷ Some 1 ∷ Some 1 ∷ Some 0 ∷ Some 1 ∷ Some 1 ∷ []
  -- fit, with a free place; number 0; no real day; no dwelling; 10,001 dwellings; no entry
  pub registers : on_registers (
      (object_with 7 20180101 10000 ∷ object_with 0 0 0 ∷ []) ∷
      (object_with 0 20180101 1 ∷ object_with 0 0 0 ∷ []) ∷
      (object_with 7 20180230 1 ∷ object_with 0 0 0 ∷ []) ∷
      (object_with 7 20180101 0 ∷ object_with 0 0 0 ∷ []) ∷
      (object_with 7 20180101 10001 ∷ object_with 0 0 0 ∷ []) ∷ [] ∷ []) ≡
      Some 0 ∷ Some 1 ∷ Some 1 ∷ Some 1 ∷ Some 1 ∷ Some 1 ∷ []
  -- the largest totals, and one above it in each place
  pub totals : on_each_totals (
      totals_with most most most most ∷
      totals_with (most + 1) 0 0 0 ∷ totals_with 0 (most + 1) 0 0 ∷
      totals_with 0 0 (most + 1) 0 ∷ totals_with 0 0 0 (most + 1) ∷ []) ≡
      Some 0 ∷ Some 1 ∷ Some 1 ∷ Some 1 ∷ Some 1 ∷ []
  -- a share-out of the third operator's commitment: with a place; with that operator on the roll;
  -- with no place
  pub commitment_shared : shares_on open_levy (
      (operator_with 1 4 0 0 ∷ operator_with 2 2 0 0 ∷ operator_with 0 0 0 0 ∷ []) ∷
      (operator_with 1 4 0 0 ∷ operator_with 3 2 0 0 ∷ operator_with 0 0 0 0 ∷ []) ∷
      (operator_with 1 4 0 0 ∷ operator_with 2 2 0 0 ∷ []) ∷ []) ≡
      Some 0 ∷ Some 7 ∷ Some 10 ∷ []
  -- a share-out of the first operator's raise to 9: at 4; not on the roll; at 9 already
  pub raise_shared : shares_on raise_levy (
      (operator_with 1 4 0 0 ∷ operator_with 2 2 0 0 ∷ []) ∷
      (operator_with 5 4 0 0 ∷ operator_with 2 2 0 0 ∷ []) ∷
      (operator_with 1 9 0 0 ∷ operator_with 2 2 0 0 ∷ []) ∷ []) ≡
      Some 0 ∷ Some 8 ∷ Some 9 ∷ []
  -- it takes k from the roll handed in, 3 from 6 tranches, and tranches of a later index weigh
  -- nothing
  pub taken_from_roll : moved later_shared.figures.totals ≡ 932850000 ∷ 932850000 ∷ 0 ∷ 2 ∷ []
  pub later_tranches : balances later_shared ≡ 621900000 ∷ 310950000 ∷ []
