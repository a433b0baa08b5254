-- An event whose levy is shared out at once, as steps of a zone's life.
--   Strips       the two strips that an event is lent
--   Room         how many places they have
--   call_for     the call of an event
--   event_steps    that call, and the share-outs that end the levy it may open
--   event_refusal   why an event is refused, if it is
--   bill_lines   the lines of its bill; credit_lines, those of its share-out
use Rattle.std.specs.Prelude.{ℕ, ◌*◌, min, if◌then◌else◌, nat_lt, List, [], ◌∷◌, ◌++◌, length, Some, None, Ok, Err, Option}
use Rattle.refusal.specs.declared.Refusal.{Refusal}
use Rattle.refusal.specs.declared.Refusal.TheVariants.{StripTooShort}
use Rattle.tariff.specs.Meaning.{Meaning}
use Rattle.book.specs.Zone.{State, Answer, counted_roll, counted_register}
use Rattle.book.specs.Calls.{Call, commitment, raise, share_out}
use Rattle.book.specs.Runs.{Step, ◌on◌, answer_at, lines_in, next}
use Rattle.book.specs.declared.lines.Line.{Line}
use Rattle.book.specs.declared.event.Change.{Change}
use Rattle.book.specs.declared.event.Change.TheVariants.{Commitment, Raise}
use Rattle.book.specs.declared.event.Event.{Event}

-- One strip is for the lines of the bill, the other for those of the share-out.
pub record Strips : Type 0 where
  pub bill : List Line
  pub credits : List Line

abbrev pub strips : List Line → List Line → Strips
strips bill credits = record { bill = bill; credits = credits }

-- The places for the bill, and for the share-out: at first so many, and in all.
pub record Room : Type 0 where
  pub bill : ℕ
  pub first : ℕ
  pub credits : ℕ

-- The first share-out is lent so many places of its strip, or all if it has no more.
abbrev pub room_on : Strips → ℕ → Room
room_on lent places = record {
  bill = length lent.bill;
  first = min places (length lent.credits);
  credits = length lent.credits;
}

-- An event is a commitment or a raise.
abbrev pub change_call : Change → ℕ → ℕ → ℕ → Call
change_call Commitment date operator rate = commitment date operator rate
change_call Raise date operator rate = raise date operator rate

abbrev pub call_for : Event → Call
call_for v = change_call v.change v.date v.operator v.rate

-- Its levy is shared out on the first places, and on all of them where it is still open.
abbrev pub share_outs : Room → List Step
share_outs room = share_out on room.first ∷ share_out on room.credits ∷ []

abbrev pub event_steps : Event → Room → List Step
event_steps v room = call_for v on room.bill ∷ share_outs room

-- What the event's own call is answered, and the state that it leads to.
abbrev pub billed_as : Meaning → State → Event → Room → Option Answer
billed_as m s v room = answer_at m s (call_for v on room.bill)

abbrev pub after_bill : Meaning → State → Event → Room → State
after_bill m s v room = next s (billed_as m s v room)

-- No share-out has more lines than one for each counted operator and each counted object together.
abbrev pub most_lines : State → ℕ
most_lines s = length (counted_roll s.figures s.tables) * length
    (counted_register s.figures s.tables)

-- The refusal of an answer, if it is one.
abbrev pub answer_refusal : Option Answer → Option Refusal
answer_refusal None = None
answer_refusal (Some (Ok effect)) = None
answer_refusal (Some (Err refusal)) = Some refusal

-- With too few places for the longest share-out an event is refused before anything else, else as
-- its call is.
abbrev pub event_refusal : Meaning → State → Event → Room → Option Refusal
event_refusal m s v room =
    if nat_lt room.credits (most_lines s) then Some StripTooShort else
    answer_refusal (billed_as m s v room)

-- Why the first share-out is refused, if it is.
abbrev pub first_refusal : Meaning → State → Event → Room → Option Refusal
first_refusal m s v room = answer_refusal (answer_at m (after_bill m s v room)
    (share_out on room.first))

-- The lines that steps write, one step's after the other's.
abbrev pub lines_of : Meaning → State → List Step → List Line
lines_of m s [] = []
lines_of m s (step ∷ steps) = lines_in (answer_at m s step) ++
    lines_of m (next s (answer_at m s step)) steps

abbrev pub bill_lines : Meaning → State → Event → Room → List Line
bill_lines m s v room = lines_in (billed_as m s v room)

abbrev pub credit_lines : Meaning → State → Event → Room → List Line
credit_lines m s v room = lines_of m (after_bill m s v room) (share_outs room)
