-- What the calls' code says of itself, in the words of the definitions.
--   tables    a roll and a register as the tables of a call
--   changing  the checks of a change by what the roll says of its operator
use Rattle.std.specs.Prelude.{ℕ, Bool, not, List, [], ◌∷◌, is_some, Option, nat_le}
use Rattle.std.specs.Option.{unwrap_or}
use Rattle.refusal.specs.Checks.{Check, ◌⇒◌}
use Rattle.refusal.specs.declared.Refusal.TheVariants.{AlreadyOnRoll, NotOnRoll, RateNotRaised, RollFull}
use Rattle.book.specs.declared.event.Change.{Change}
use Rattle.book.specs.declared.event.Change.TheVariants.{Commitment, Raise}
use Rattle.book.specs.Zone.{Tables}
use Rattle.book.specs.declared.tables.Tables as lent
use Rattle.book.specs.declared.entries.RollEntry.{RollEntry}
use Rattle.book.specs.declared.entries.RegisterEntry.{RegisterEntry}

abbrev pub tables : List RollEntry → List RegisterEntry → Tables
tables roll register = record { roll = roll; register = register }

-- The tables that a call is lent.
abbrev pub tables_in : lent.Tables → Tables
tables_in t = tables t.roll.now t.register.now

-- The checks of a change by what the roll says of its operator: its rate if it has one, and whether
-- a newcomer finds no place.
abbrev pub changing : Change → Option ℕ → Bool → ℕ → List Check
changing Commitment present full rate = (is_some present ⇒ AlreadyOnRoll) ∷ (full ⇒ RollFull) ∷ []
changing Raise present full rate =
    (not (is_some present) ⇒ NotOnRoll) ∷
    (nat_le rate (unwrap_or present 0) ⇒ RateNotRaised) ∷ []
