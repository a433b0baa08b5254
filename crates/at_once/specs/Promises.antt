-- What is promised of an event whose levy is shared out at once.
--   refusal_of   the refusal of a result, if it is one
--   IsFilled     lines fill a strip from its start
--   IsSettled    an event is billed and its levy shared out
--   LivesOnBy    every life goes on by some steps
use Rattle.std.specs.Prelude.{◌≡◌, ℕ, List, length, Some, None, Ok, Err, Option, Result}
use Rattle.refusal.specs.declared.Refusal.{Refusal}
use Rattle.tariff.specs.Meaning.{Meaning}
use Rattle.book.specs.Lists.{written}
use Rattle.book.specs.Zone.{Tables, State}
use Rattle.book.specs.Tally.{Made}
use Rattle.book.specs.Life.{Life}
use Rattle.book.specs.Laws.{Accounted}
use Rattle.book.specs.Promises.{launched_on}
use Rattle.book.specs.Runs.{Step, lived, calls}
use Rattle.book.specs.declared.lines.Line.{Line}
use Rattle.book.specs.declared.outcome.Refused.{Refused}
use Rattle.book.specs.declared.event.Event.{Event}
use Rattle.at_once.specs.Steps.{Strips, room_on, event_steps, bill_lines, first_refusal, credit_lines}
use Rattle.at_once.specs.declared.settled.Settled.{Settled}

abbrev pub refusal_of : {Z Y : Type 0} → Result Z (Refused Y) → Option Refusal
refusal_of (Ok done) = None
refusal_of (Err back) = Some back.refusal

-- Lines stand on a strip from its start, the places after them as they were, and this is their
-- number.
pub record IsFilled (lines before after : List Line) (number : ℕ) : Type 0 where
  pub strip : after ≡ written lines before
  pub count : number ≡ length lines

-- An event leads to the state after its steps; its bill stands on one strip, its share-out on the
-- other.
pub record IsSettled (m : Meaning) (s : State) (v : Event) (first : ℕ) (before after : Strips)
    (t : Tables) (done : Settled) :
    Type 0 where
  pub state : launched_on done.zone t ≡ lived m s (event_steps v (room_on before first))
  pub bill : IsFilled (bill_lines m s v (room_on before first)) before.bill after.bill done.billed
  pub turned_down : done.turned_down ≡ first_refusal m s v (room_on before first)
  pub credits : IsFilled (credit_lines m s v (room_on before first)) before.credits after.credits
      done.credited

-- Every life that leads to a state goes on by these steps, and there the accounts hold.
abbrev pub LivesOnBy : Meaning → State → List Step → Type 0
LivesOnBy m s steps =
    (before : List Made) → Life m before s →
    Life m (calls m s steps before) (lived m s steps) ×
    Accounted (λ lines. lines) m (calls m s steps before) (lived m s steps)
