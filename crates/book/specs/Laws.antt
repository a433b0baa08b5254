-- The laws of a zone's life, over every sheet that keeps the tariff's limits.
--   HeldUnder              two amounts differ by less than a limit, and by nothing where there are
--                          no credit lines
--   Accounted              what the tally's calls come to is what zone and tables hold
--   EveryLifeAccounted     it holds at the start of every life and after each call
--   EveryCutFair           the unit prices of a cut raise and of the whole one differ by little
use Rattle.std.specs.Prelude.{◌≡◌, ℕ, ◌+◌, ◌<◌, ◌≤◌, List, length}
use Rattle.tariff.specs.Meaning.{Meaning, Lawful}
use Rattle.book.specs.Lists.{total}
use Rattle.book.specs.Lines.{unit_shown}
use Rattle.book.specs.Zone.{State, launched, Effect, counted_register, counted_members}
use Rattle.book.specs.Calls.{raise}
use Rattle.book.specs.Tally.{Made, tallied}
use Rattle.book.specs.Life.{Life}
use Rattle.book.specs.Cuts.{Accepts, Cut}
use Rattle.book.specs.declared.lines.Line.{Line}
use Rattle.book.specs.declared.lines.Nature.{Nature}
use Rattle.book.specs.declared.lines.Nature.TheVariants.{Charge, Contribution}

pub record HeldUnder (limit : ℕ → ℕ) (lines x y : ℕ) : Type 0 where
  pub none : lines ≡ 0 → x ≡ y
  pub over : 0 < lines → x < y + limit lines
  pub under : 0 < lines → y < x + limit lines

-- The counted roll and register, operator by operator and object by object, and the totals are the
-- tally's. Contributed less all balances less unshared is, either way, under the limit for the
-- credit lines.
pub record Accounted (limit : ℕ → ℕ) (m : Meaning) (calls : List Made) (s : State) : Type 0 where
  pub members : counted_members s.figures s.tables ≡ (tallied m calls).members
  pub objects : counted_register s.figures s.tables ≡ (tallied m calls).objects
  pub operators_counted : s.figures.operators ≡ length (tallied m calls).members
  pub objects_counted : s.figures.objects ≡ length (tallied m calls).objects
  pub totals : s.figures.totals ≡ (tallied m calls).totals
  pub held : HeldUnder limit s.figures.totals.credit_lines s.figures.totals.contributed
      (total (λ x. x.balance) (counted_members s.figures s.tables) + s.figures.totals.unshared)

abbrev pub EveryLifeAccounted : (ℕ → ℕ) → Type 0
EveryLifeAccounted limit =
    (m : Meaning) → Lawful m → (calls : List Made) (s : State) → Life m calls s →
    Accounted limit m calls s

-- x and y differ by at most n.
pub record Apart (n x y : ℕ) : Type 0 where
  pub over : x ≤ y + n
  pub under : y ≤ x + n

-- The unit that the whole shows for an object, and the units that its parts show for it together.
abbrev pub ShownApart : ℕ → Nature → ℕ → ℕ → List Line → List (List Line) → Type 0
ShownApart n nature operator object whole parts =
    Apart n (unit_shown nature operator object whole)
    (total (unit_shown nature operator object) parts)

-- However an accepted raise that bills is cut, for every object the unit prices of the parts
-- together and that of the whole differ by at most the limit for the number of parts, and so do the
-- unit contributions.
abbrev pub EveryCutFair : (ℕ → ℕ) → Type 0
EveryCutFair limit =
    (m : Meaning) → Lawful m → (calls : List Made) (s : State) → Life m calls s →
    (launch_date : ℕ) → s.phase ≡ launched launch_date →
    (date operator rate : ℕ) (effect : Effect) → Accepts m s (raise date operator rate) effect →
    (parts : List (List Line)) → Cut m date operator rate s parts → (object : ℕ) →
    ShownApart (limit (length parts)) Charge operator object effect.lines parts ×
    ShownApart (limit (length parts)) Contribution operator object effect.lines parts
