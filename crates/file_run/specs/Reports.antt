-- What a run of an event file reports.
--   ShownNotice  a refusal with its place and the text of its label
--   notices      the refusals of what a file tells, in order, from a state on
--   steps_told   the steps that the events of a file ask for
--   ending       the state of zone and tables after a file
--   RunsAsLife   the run of a file is a life, and the accounts hold at its end
use Rattle.std.specs.Prelude.{◌≡◌, ℕ, ◌+◌, cond, List, [], ◌∷◌, ◌++◌, Some, None, Option, ◌==◌, flat_map}
use Rattle.money.specs.Signs.{apart, below_zero}
use Rattle.money.specs.declared.signed.SignedMoney.{SignedMoney}
use Rattle.refusal.specs.declared.Refusal.{Refusal}
use Rattle.tariff.specs.Meaning.{Meaning}
use Rattle.event_file.specs.Format.{Shown, label_of}
use Rattle.event_file.specs.Reading.{fault_at}
use Rattle.event_file.specs.Telling.{Telling, told_event, told_fault, file_tells}
use Rattle.event_file.specs.declared.fault.Fault.{Fault}
use Rattle.book.specs.Zone.{State, Tables, Phase, preparing, launched, levied}
use Rattle.book.specs.Life.{Life, empty_state}
use Rattle.book.specs.Laws.{Accounted, HeldUnder}
use Rattle.book.specs.Runs.{Step, lived, calls}
use Rattle.book.specs.Tally.{Made}
use Rattle.file_run.specs.Taking.{call_of, steps_for, refusal_to}

-- A byte before what is left of the bytes after it: an end blank goes.
abbrev pub before_rest : ℕ → List ℕ → List ℕ
before_rest b [] = cond (b == 32) [] (b ∷ [])
before_rest b (c ∷ cs) = b ∷ c ∷ cs

-- A text without its end blanks.
abbrev pub without_end_blanks : List ℕ → List ℕ
without_end_blanks [] = []
without_end_blanks (b ∷ bs) = before_rest b (without_end_blanks bs)

pub record ShownNotice : Type 0 where
  pub fault : Fault
  pub label : List ℕ

-- A fault of the file itself has no label.
abbrev pub bare : Fault → ShownNotice
bare fault = record { fault = fault; label = [] }

abbrev pub labelled : ℕ → ℕ → Shown → Refusal → ShownNotice
labelled block entry e refusal =
    record { fault = fault_at refusal block entry; label = without_end_blanks (label_of e) }

abbrev pub notice_of : ℕ → ℕ → Shown → Option Refusal → List ShownNotice
notice_of block entry e None = []
notice_of block entry e (Some refusal) = labelled block entry e refusal ∷ []

-- A refused entry is reported and passed over.
abbrev pub notices : Meaning → State → List Telling → List ShownNotice
notices m s [] = []
notices m s (told_fault fault ∷ more) = bare fault ∷ notices m s more
notices m s (told_event block entry e ∷ more) =
    notice_of block entry e (refusal_to m s (call_of e)) ++
    notices m (lived m s (steps_for (call_of e))) more

abbrev pub telling_steps : Telling → List Step
telling_steps (told_event block entry e) = steps_for (call_of e)
telling_steps (told_fault fault) = []

abbrev pub steps_told : List Telling → List Step
steps_told tellings = flat_map telling_steps tellings

abbrev pub file_steps : List ℕ → List Step
file_steps bs = steps_told (file_tells bs)

-- A run begins with an empty zone and no entry counted, whatever the tables hold.
abbrev pub ending : Meaning → Tables → List ℕ → State
ending m t bs = lived m (empty_state t) (file_steps bs)

-- The calls that were made, accepted or refused, the newest first.
abbrev pub calls_made : Meaning → Tables → List ℕ → List Made
calls_made m t bs = calls m (empty_state t) (file_steps bs) []

abbrev pub file_notices : Meaning → Tables → List ℕ → List ShownNotice
file_notices m t bs = notices m (empty_state t) (file_tells bs)

-- What the zone holds back or has overpaid is contributed less credited less unshared.
abbrev pub paid_out : State → ℕ
paid_out s = s.figures.totals.credited + s.figures.totals.unshared

-- What is held, as a number with its sign.
pub record IsHeld (held : SignedMoney) (contributed paid : ℕ) : Type 0 where
  pub sign : held.negative ≡ below_zero contributed paid
  pub amount : held.amount.micros ≡ apart contributed paid

-- No levy is open.
abbrev pub Closed : Phase → Type 0
Closed preparing = Unit {0}
Closed (launched date) = Unit {0}
Closed (levied date event) = ⊥

-- A run is a life: the calls of the file, accepted or refused, lead from an empty zone to its
-- ending, where the accounts hold and what is held is under one micro-euro for each credit line,
-- either way.
pub record RunsAsLife (m : Meaning) (t : Tables) (bs : List ℕ) : Type 0 where
  pub life : Life m (calls_made m t bs) (ending m t bs)
  pub accounted : Accounted (λ lines. lines) m (calls_made m t bs) (ending m t bs)
  pub held : HeldUnder (λ lines. lines)
      (ending m t bs).figures.totals.credit_lines (ending m t bs).figures.totals.contributed
      (paid_out (ending m t bs))
