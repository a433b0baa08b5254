-- Lives of a zone.
--   answer_to   what a state answers to a call with a strip of some places; none where its phase
--               does not take the call
--   Life        the calls made, the newest first, and the state that they lead to
use Rattle.std.specs.Prelude.{◌≡◌, ℕ, List, [], ◌∷◌, Some, None, Option}
use Rattle.tariff.specs.Meaning.{Meaning}
use Rattle.book.specs.Zone.{Tables, Phase, preparing, launched, levied, State, Answer, refused, state_after, no_figures}
use Rattle.book.specs.Calls.{Call, commitment, raise, launch, opening, cabling, share_out, commitment_event, raise_event, opened, cabled}
use Rattle.book.specs.Answers.{subscription, launching, installation, billing, settling}
use Rattle.book.specs.Tally.{Made}
use Rattle.book.specs.declared.entries.RegisterEntry.{RegisterEntry}
use Rattle.book.specs.declared.figures.Figures.{Figures}
use Rattle.book.specs.declared.event.Event.{Event}

-- A zone in preparation takes commitments and raises without charge; a launched one takes those
-- that bill.
abbrev pub answer_to_event : Meaning → Figures → Tables → ℕ → Event → Phase → Option Answer
answer_to_event m f t places v preparing = Some (subscription f t v)
answer_to_event m f t places v (launched date) = Some (billing m f date t places v)
answer_to_event m f t places v _ = None

-- A zone in preparation is launched.
abbrev pub answer_to_launch : Figures → Tables → ℕ → Phase → Option Answer
answer_to_launch f t date preparing = Some (launching f t date)
answer_to_launch f t date _ = None

-- Only a launched zone takes objects.
abbrev pub answer_to_object : Meaning → Figures → Tables → ℕ → RegisterEntry → Phase → Option Answer
answer_to_object m f t places o (launched date) = Some (installation m f date t places o)
answer_to_object m f t places o _ = None

-- An open levy takes a share-out and nothing else.
abbrev pub answer_to_share_out : Meaning → Figures → Tables → ℕ → Phase → Option Answer
answer_to_share_out m f t places (levied date v) = Some (settling m f date t places v)
answer_to_share_out m f t places _ = None

abbrev pub answer_to : Meaning → State → ℕ → Call → Option Answer
answer_to m s places (commitment date operator rate) =
    answer_to_event m s.figures s.tables places (commitment_event date operator rate) s.phase
answer_to m s places (raise date operator rate) =
    answer_to_event m s.figures s.tables places (raise_event date operator rate) s.phase
answer_to m s places (launch date) = answer_to_launch s.figures s.tables date s.phase
answer_to m s places (opening date object dwellings) =
    answer_to_object m s.figures s.tables places (opened date object dwellings) s.phase
answer_to m s places (cabling date object third dwellings) =
    answer_to_object m s.figures s.tables places (cabled date object third dwellings) s.phase
answer_to m s places share_out = answer_to_share_out m s.figures s.tables places s.phase

abbrev pub made : Call → Answer → Made
made call answer = record { call = call; refused = refused answer }

-- An empty zone, with a roll and a register of any length and content and no entry counted.
abbrev pub empty_state : Tables → State
empty_state t = record { figures = no_figures; phase = preparing; tables = t }

-- A life goes on by any call that its phase takes, accepted or refused, with a strip of any number
-- of places.
pub data Life (m : Meaning) : List Made → State → Type 0 where
  begins : (tables : Tables) → Life m [] (empty_state tables)
  goes_on : {calls : List Made} {s : State} {answer : Answer} (places : ℕ) (call : Call) →
      Life m calls s →
      answer_to m s places call ≡ Some answer →
      Life m (made call answer ∷ calls) (state_after s answer)
