-- How contributions are shared among the operators that the event finds.
--   object_contribution   what an object contributes
--   amount_divided, share_count   the amount of an object that is divided, and how often a share of
--                                 it counts
--   serves                whether an amount and a weight are both above 0
--   share, due            an operator's share of an object; 1 where it has one, else 0
--   credits               the credit lines of a share-out
--   moved_by              what a share-out moves: contributed, credited, unshared, credit lines
use Rattle.std.specs.Prelude.{ℕ, zero, suc, ◌+◌, ◌*◌, ◌≤◌, Bool, true, false, cond, List, [], ◌∷◌, ◌==◌, flat_map, length}
use Rattle.tariff.specs.Meaning.{Meaning}
use Rattle.book.specs.Limits.{most_contributed, most_credited, most_credit_lines}
use Rattle.book.specs.Lists.{total}
use Rattle.book.specs.Lines.{line}
use Rattle.book.specs.Members.{Member, Addition, weight_to, whole_weight}
use Rattle.unit_prices.specs.Prices.{unit_contribution}
use Rattle.book.specs.declared.entries.RegisterEntry.{RegisterEntry}
use Rattle.book.specs.declared.lines.Line.{Line}
use Rattle.book.specs.declared.lines.Nature.TheVariants.{Credit}
use Rattle.book.specs.declared.figures.Totals.{Totals}

-- An object contributes its unit contribution times its dwellings.
abbrev pub object_contribution : Meaning → Addition → RegisterEntry → ℕ
object_contribution m a o = unit_contribution m o.kind o.installed a.date a.tranches * o.dwellings

-- The amount of an object that is divided among the operators is its whole contribution.
abbrev pub amount_divided : Meaning → Addition → RegisterEntry → ℕ
amount_divided m a o = object_contribution m a o

-- A share of it counts once.
abbrev pub share_count : RegisterEntry → ℕ
share_count o = 1

abbrev pub serves : ℕ → ℕ → Bool
serves zero weight = false
serves (suc amount) zero = false
serves (suc amount) (suc weight) = true

-- A share is amount × weight / whole weight, rounded. The last operator does not get the rest.
abbrev pub unit_share : Meaning → ℕ → ℕ → ℕ → ℕ
unit_share m amount weight whole = m.rounded (amount * weight) whole

-- Where amount and weight are above 0 an operator gets its unit share, as often as it counts.
abbrev pub share : Meaning → ℕ → ℕ → ℕ → ℕ → ℕ
share m amount weight whole often =
    cond (serves amount weight) (unit_share m amount weight whole * often) 0

abbrev pub due : ℕ → ℕ → ℕ
due amount weight = cond (serves amount weight) 1 0

-- The share of an operator of some tranches in an object, and whether it has one.
abbrev pub share_of : Meaning → Addition → ℕ → RegisterEntry → List ℕ → ℕ
share_of m a whole o tranches =
    share m (amount_divided m a o) (weight_to m a.index tranches) whole (share_count o)

abbrev pub due_of : Meaning → Addition → RegisterEntry → List ℕ → ℕ
due_of m a o tranches = due (amount_divided m a o) (weight_to m a.index tranches)

-- What an operator of some tranches gets of all objects.
abbrev pub payout : Meaning → Addition → ℕ → List RegisterEntry → List ℕ → ℕ
payout m a whole objects tranches = total (λ o. share_of m a whole o tranches) objects

-- The credit line of an object and an operator, if it has a share of it.
abbrev pub credit : Meaning → Addition → ℕ → RegisterEntry → Member → List Line
credit m a whole o x =
    cond (serves (amount_divided m a o) (weight_to m a.index x.tranches))
    (line Credit x.operator o.object
    (unit_share m (amount_divided m a o) (weight_to m a.index x.tranches) whole)
    (share_count o) ∷ [])
    []

-- Each object in register order, and for it each operator in roll order.
abbrev pub credits : Meaning → Addition → List RegisterEntry → List Member → List Line
credits m a objects members =
    flat_map (λ o. flat_map (credit m a (whole_weight m a.index members) o) members) objects

-- Where all operators together weigh nothing, the contributions are unshared.
abbrev pub left_unshared : Meaning → Addition → List RegisterEntry → List Member → ℕ
left_unshared m a objects members =
    cond (whole_weight m a.index members == 0) (total (object_contribution m a) objects) 0

-- What a share-out moves: what is contributed, the lines' totals, what is unshared, and how many
-- lines there are.
abbrev pub moved_by : Meaning → Addition → List RegisterEntry → List Member → Totals
moved_by m a objects members = record {
  contributed = total (object_contribution m a) objects;
  credited = total (λ l. l.total) (credits m a objects members);
  unshared = left_unshared m a objects members;
  credit_lines = length (credits m a objects members);
}

-- Totals, and what is added to them.
abbrev pub more_totals : Totals → Totals → Totals
more_totals before moved = record {
  contributed = before.contributed + moved.contributed;
  credited = before.credited + moved.credited;
  unshared = before.unshared + moved.unshared;
  credit_lines = before.credit_lines + moved.credit_lines;
}

-- No share-out moves more than this.
pub record IsShareOutsMost (moved : Totals) : Type 0 where
  pub contributed : moved.contributed ≤ most_contributed
  pub credited : moved.credited ≤ most_credited
  pub unshared : moved.unshared ≤ most_contributed
  pub credit_lines : moved.credit_lines ≤ most_credit_lines
