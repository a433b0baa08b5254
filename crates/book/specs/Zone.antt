-- Where a zone and its tables stand, and what an answer to a call makes of them.
--   Tables   the roll and the register that are lent to each call; a zone counts entries from their
--            start
--   Phase    whether a zone is in preparation, launched on a day, or has an event's levy open
--   State    the zone's figures, its phase, and the tables
--   Effect   the state that an accepted call leads to, and the lines that it writes
--   Answer   an effect, or a refusal
use Rattle.std.specs.Prelude.{ℕ, Bool, true, false, List, take, Some, None, Ok, Err, Option, Result}
use Rattle.refusal.specs.declared.Refusal.{Refusal}
use Rattle.book.specs.Lists.{written}
use Rattle.book.specs.Members.{Member, members_of}
use Rattle.book.specs.declared.entries.RollEntry.{RollEntry}
use Rattle.book.specs.declared.entries.RegisterEntry.{RegisterEntry}
use Rattle.book.specs.declared.lines.Line.{Line}
use Rattle.book.specs.declared.figures.Totals.{Totals}
use Rattle.book.specs.declared.figures.Figures.{Figures}
use Rattle.book.specs.declared.event.Event.{Event}

pub record Tables : Type 0 where
  pub roll : List RollEntry
  pub register : List RegisterEntry

-- The entries that a zone counts.
abbrev pub counted_roll : Figures → Tables → List RollEntry
counted_roll f t = take f.operators t.roll

abbrev pub counted_register : Figures → Tables → List RegisterEntry
counted_register f t = take f.objects t.register

abbrev pub counted_members : Figures → Tables → List Member
counted_members f t = members_of (counted_roll f t)

pub data Phase : Type 0 where
  preparing : Phase
  launched : (launch_date : ℕ) → Phase
  levied : (launch_date : ℕ) (event : Event) → Phase

-- The launch date of a phase, and the event of an open levy.
abbrev pub launch_day : Phase → Option ℕ
launch_day preparing = None
launch_day (launched launch_date) = Some launch_date
launch_day (levied launch_date event) = Some launch_date

abbrev pub open_event : Phase → Option Event
open_event (levied launch_date event) = Some event
open_event _ = None

pub record State : Type 0 where
  pub figures : Figures
  pub phase : Phase
  pub tables : Tables

pub record Effect : Type 0 where
  pub state : State
  pub lines : List Line

abbrev pub Answer : Type 0
Answer = Result Effect Refusal

abbrev pub refused : Answer → Bool
refused (Ok effect) = false
refused (Err refusal) = true

-- A refusal leaves zone, tables and strip as they were. Lines fill the strip from its start; later
-- places keep their content.
abbrev pub state_after : State → Answer → State
state_after s (Ok effect) = effect.state
state_after s (Err refusal) = s

abbrev pub tables_after : Tables → Answer → Tables
tables_after t (Ok effect) = effect.state.tables
tables_after t (Err refusal) = t

abbrev pub strip_after : List Line → Answer → List Line
strip_after strip (Ok effect) = written effect.lines strip
strip_after strip (Err refusal) = strip

-- The figures of an empty zone.
abbrev pub no_totals : Totals
no_totals = record { contributed = 0; credited = 0; unshared = 0; credit_lines = 0 }

abbrev pub no_figures : Figures
no_figures = record { last = None; operators = 0; objects = 0; totals = no_totals }

-- The figures with another last date, other counts, other totals.
abbrev pub dated : ℕ → Figures → Figures
dated date f = record f { last = Some date }

abbrev pub counting_operators : ℕ → Figures → Figures
counting_operators n f = record f { operators = n }

abbrev pub counting_objects : ℕ → Figures → Figures
counting_objects n f = record f { objects = n }

abbrev pub with_totals : Totals → Figures → Figures
with_totals totals f = record f { totals = totals }

-- The tables with other entries from the start, the places after them as they were.
abbrev pub with_roll : Tables → List RollEntry → Tables
with_roll t entries = record t { roll = written entries t.roll }

abbrev pub with_register : Tables → List RegisterEntry → Tables
with_register t entries = record t { register = written entries t.register }
