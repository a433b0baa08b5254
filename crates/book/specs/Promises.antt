-- What the calls of a zone promise of their results.
--   prepared, launched_on, levied_on   the three states of a zone, with its tables, as states of a
--                                      life
--   answered, written_answer           the answer that a result stands for
--   LivesBegin                         a life begins, whatever the tables, and its accounts hold
--   LivesOn                            a life goes on by a call, and its accounts hold
--   IsAnswered                         a call is answered as its definition says
--   IsWritten                          a result and a strip are what an answer says
--   WholeLifeLaws                      both laws of a zone's life, over every sheet and every life
--   CutsFairly                         an accepted raise and its parts, however it is cut, show
--                                      units that differ by little
use Rattle.std.specs.Prelude.{◌≡◌, ℕ, List, [], ◌∷◌, length, take, Some, Ok, Err, Result}
use Rattle.std.specs.Option.{option_map}
use Rattle.tariff.specs.Meaning.{Meaning, Lawful}
use Rattle.book.specs.Zone.{Tables, preparing, launched, levied, State, Answer, state_after, strip_after}
use Rattle.book.specs.Calls.{Call}
use Rattle.book.specs.Tally.{Made}
use Rattle.book.specs.Life.{Life, made, answer_to}
use Rattle.book.specs.Cuts.{Cut}
use Rattle.book.specs.Laws.{Accounted, ShownApart, EveryLifeAccounted, EveryCutFair}
use Rattle.book.specs.declared.lines.Line.{Line}
use Rattle.book.specs.declared.lines.Nature.TheVariants.{Charge, Contribution}
use Rattle.book.specs.declared.prepared.PreparedZone.{PreparedZone}
use Rattle.book.specs.declared.launched.LaunchedZone.{LaunchedZone}
use Rattle.book.specs.declared.levy.OpenLevy.{OpenLevy}
use Rattle.book.specs.declared.outcome.Refused.{Refused}
use Rattle.book.specs.declared.outcome.Written.{Written}

abbrev pub prepared : PreparedZone → Tables → State
prepared zone t = record { figures = zone.core.figures; phase = preparing; tables = t }

abbrev pub launched_on : LaunchedZone → Tables → State
launched_on zone t = record {
  figures = zone.core.figures;
  phase = launched zone.launch_date;
  tables = t;
}

-- A levy is a launched zone with the event that it keeps.
abbrev pub levied_on : OpenLevy → Tables → State
levied_on levy t =
    record {
      figures = levy.zone.core.figures;
      phase = levied levy.zone.launch_date levy.event;
      tables = t;
    }

-- The answer that a result stands for: the state that it leads to, without a line, or the refusal.
abbrev pub answered : {Z Y : Type 0} → (Z → Tables → State) → Tables → Result Z (Refused Y) → Answer
answered state t (Ok zone) = Ok (record { state = state zone t; lines = [] })
answered state t (Err back) = Err back.refusal

-- The same of a call that writes: its lines are so many from the start of the strip.
abbrev pub written_answer :
    {Z Y : Type 0} → (Z → Tables → State) → Tables → List Line → Result (Written Z) (Refused Y) →
    Answer
written_answer state t strip (Ok done) =
    Ok (record { state = state done.zone t; lines = take done.lines strip })
written_answer state t strip (Err back) = Err back.refusal

-- How many lines a result says that it wrote: none where it refuses.
abbrev pub written_count : {Z Y : Type 0} → Result (Written Z) (Refused Y) → ℕ
written_count (Ok done) = done.lines
written_count (Err back) = 0

-- How many lines an answer writes.
abbrev pub line_count : Answer → ℕ
line_count (Ok effect) = length effect.lines
line_count (Err refusal) = 0

-- A life begins at a zone with tables of any length and content, and there the accounts hold.
abbrev pub LivesBegin : Meaning → PreparedZone → Type 0
LivesBegin m zone =
    (t : Tables) → Life m [] (prepared zone t) × Accounted (λ lines. lines) m [] (prepared zone t)

-- Every life that leads to a state goes on by a call to what its answer leaves, and there the
-- accounts hold.
abbrev pub LivesOn : Meaning → State → Call → Answer → Type 0
LivesOn m s call answer =
    (calls : List Made) → Life m calls s →
    Life m (made call answer ∷ calls) (state_after s answer) ×
    Accounted (λ lines. lines) m (made call answer ∷ calls) (state_after s answer)

-- A state answers a call, on a strip, as its definition says: this is the answer, the strip is then
-- so, and so many lines were written; and every life goes on by the call.
pub record IsAnswered (m : Meaning) (s : State) (call : Call) (before after : List Line)
    (number : ℕ) (answer : Answer) :
    Type 0 where
  pub given : answer_to m s (length before) call ≡ Some answer
  pub strip : option_map (strip_after before) (answer_to m s (length before) call) ≡ Some after
  pub count : option_map line_count (answer_to m s (length before) call) ≡ Some number
  pub life : Lawful m → LivesOn m s call answer

-- What a call hands back and leaves on a strip is what an answer says.
pub record IsWritten (said : Answer) (before after : List Line) (number : ℕ)
    (answer : Answer) : Type 0 where
  pub given : answer ≡ said
  pub strip : after ≡ strip_after before said
  pub count : number ≡ line_count said

-- Over every sheet that keeps the tariff's limits, every life is accounted for and every cut of a
-- raise is fair.
pub record WholeLifeLaws : Type 0 where
  pub accounted : EveryLifeAccounted (λ lines. lines)
  pub fair : EveryCutFair (λ parts. parts)

-- However an accepted raise is cut, its lines and those of its parts show units that differ by
-- little.
abbrev pub CutsFairly : Meaning → State → ℕ → ℕ → ℕ → Answer → Type 0
CutsFairly m s date operator rate (Ok effect) =
    (calls : List Made) → Life m calls s → (parts : List (List Line)) →
    Cut m date operator rate s parts → (object : ℕ) →
    ShownApart (length parts) Charge operator object effect.lines parts ×
    ShownApart (length parts) Contribution operator object effect.lines parts
CutsFairly m s date operator rate (Err refusal) = Unit {0}
