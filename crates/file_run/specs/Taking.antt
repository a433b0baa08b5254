-- What an event of a file does to a zone.
--   call_of      the call that an event asks for
--   steps_for    a call, and the share-out that ends the levy it may open
--   refusal_to   why a zone turns a call down, if it does
--   Leads        what a call comes to: its refusal, if it is refused, and the state that it leads
--                to
use Rattle.std.specs.Prelude.{◌≡◌, ℕ, List, [], ◌∷◌, Some, None, Ok, Err, Option}
use Rattle.refusal.specs.declared.Refusal.{Refusal}
use Rattle.refusal.specs.declared.Refusal.TheVariants.{OutOfTurn}
use Rattle.tariff.specs.Meaning.{Meaning}
use Rattle.event_file.specs.Format as format
use Rattle.event_file.specs.Format.{Shown}
use Rattle.book.specs.Zone.{State, Answer}
use Rattle.book.specs.Calls.{Call, commitment, raise, launch, opening, cabling, share_out}
use Rattle.book.specs.Runs.{Step, ◌on◌, answer_at, lived}

abbrev pub call_of : Shown → Call
call_of (format.commitment date operator rate label) = commitment date operator rate
call_of (format.raise date operator rate label) = raise date operator rate
call_of (format.opening date object dwellings label) = opening date object dwellings
call_of (format.cabling date object dwellings third label) = cabling date object third dwellings
call_of (format.launch date label) = launch date

-- The strip that each call is given has 1,024 places.
abbrev pub strip_places : ℕ
strip_places = 1024

-- Each levy is shared out at once: a share-out is tried after every call, and only an open levy
-- takes it.
abbrev pub steps_for : Call → List Step
steps_for call = call on strip_places ∷ share_out on strip_places ∷ []

-- A call that the zone does not take is out of turn: an object before the launch, or a second
-- launch.
abbrev pub refusal_in : Option Answer → Option Refusal
refusal_in None = Some OutOfTurn
refusal_in (Some (Ok effect)) = None
refusal_in (Some (Err refusal)) = Some refusal

abbrev pub refusal_to : Meaning → State → Call → Option Refusal
refusal_to m s call = refusal_in (answer_at m s (call on strip_places))

pub record Leads (m : Meaning) (s : State) (call : Call) (refusal : Option Refusal)
    (after : State) : Type 0 where
  pub turned_down : refusal_to m s call ≡ refusal
  pub leads_to : after ≡ lived m s (steps_for call)
