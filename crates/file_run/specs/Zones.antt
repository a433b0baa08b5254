-- The zone of a run, with its tables, as a state of a life.
--   state_of   the state that the books of a run stand for
--   ComesTo    a call comes to a result: the zone that it leads to, or the refusal and the zone as
--              it was
use Rattle.std.specs.Prelude.{◌≡◌, Some, None, Ok, Err, Option, Result}
use Rattle.refusal.specs.declared.Refusal.{Refusal}
use Rattle.tariff.specs.Meaning.{Meaning}
use Rattle.event_file.specs.declared.event.PlacedEvent.{PlacedEvent}
use Rattle.book.specs.Zone.{State, Tables}
use Rattle.book.specs.Calls.{Call}
use Rattle.book.specs.Passing.{tables}
use Rattle.book.specs.Promises.{prepared, launched_on}
use Rattle.book.specs.declared.launched.LaunchedZone.{LaunchedZone}
use Rattle.book.specs.declared.outcome.Refused.{Refused}
use Rattle.file_run.specs.declared.books.Books.{Books}
use Rattle.file_run.specs.declared.ledger.Ledger.{Ledger}
use Rattle.file_run.specs.declared.notice.RefusedEvent.{RefusedEvent}
use Rattle.file_run.specs.declared.zone_state.ZoneState.{ZoneState}
use Rattle.file_run.specs.declared.zone_state.ZoneState.TheVariants.{Prepared, Launched}
use Rattle.file_run.specs.Taking.{Leads}

abbrev pub state_in : ZoneState → Tables → State
state_in (Prepared zone) t = prepared zone t
state_in (Launched zone) t = launched_on zone t

abbrev pub tables_of : Ledger → Tables
tables_of ledger = tables ledger.roll ledger.register

abbrev pub state_of : Books → State
state_of books = state_in books.zone (tables_of books.ledger)

-- No refusal, or one that comes back with the event, as the answer to an event.
abbrev pub AnsweredAs : PlacedEvent → Option Refusal → Result (Unit {0}) RefusedEvent → Type 0
AnsweredAs placed refusal (Ok taken) = refusal ≡ None
AnsweredAs placed refusal (Err back) = (refusal ≡ Some back.refusal) × (back.placed ≡ placed)

-- A call comes to this result, with these tables after it, by what a zone that it leads to and one
-- that it leaves stand for.
abbrev pub ComesTo : {Z Y : Type 0} → (Z → Tables → State) → (Y → Tables → State) → Meaning →
    State → Call → Tables → Result Z (Refused Y) → Type 0
ComesTo led left m s call t (Ok zone) = Leads m s call None (led zone t)
ComesTo led left m s call t (Err back) = Leads m s call (Some back.refusal) (left back.kept t)

-- A launched zone stays launched, whatever the call.
abbrev pub StaysLaunched : Meaning → State → Call → Tables →
    Result LaunchedZone (Refused LaunchedZone) → Type 0
StaysLaunched m s call t r = ComesTo launched_on launched_on m s call t r
