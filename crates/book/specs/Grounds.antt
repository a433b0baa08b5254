-- What the calls of a zone rest on.
--   ShareOutFollows      what an accepted commitment or raise billed can be shared out
--   LinesCounted         how many lines a call writes at most
--   NumbersFit           the numbers that a life can reach
--   EveryShareOutFits    what a share-out can reach from any accepted tables
--   EnteredAsBilled      the tranches that a share-out enters are those that were billed
use Rattle.std.specs.Prelude.{◌≡◌, ℕ, ◌+◌, ◌*◌, ◌<◌, ◌≤◌, cond, ◌&&◌, List, length, Some, Ok, Err, ◌==◌, slice_index}
use Rattle.std.specs.List.{AllByRecursion}
use Rattle.refusal.specs.declared.Refusal.{Refusal}
use Rattle.calendar.specs.Days.{index_of}
use Rattle.tariff.specs.Meaning.{Meaning, Lawful}
use Rattle.book.specs.Limits.{most_operators, most_objects, years}
use Rattle.book.specs.Members.{Member, tranches_of, Addition}
use Rattle.book.specs.Billing.{bill, charged}
use Rattle.book.specs.Sharing.{credits}
use Rattle.book.specs.Zone.{Tables, counted_roll, counted_register, counted_members, launched, State, Effect}
use Rattle.book.specs.Calls.{Call}
use Rattle.book.specs.Answers.{billing, settling_lines, settling_effect, settling}
use Rattle.book.specs.Tally.{Made}
use Rattle.book.specs.Life.{answer_to, Life}
use Rattle.book.specs.declared.entries.RegisterEntry.{RegisterEntry}
use Rattle.book.specs.declared.figures.Figures.{Figures}
use Rattle.book.specs.declared.event.Event.{Event}

-- A share-out from a state, with a strip of some places: refused with one refusal if it is too
-- short, else done.
pub record SharedOutOr (refusal : Refusal) (m : Meaning) (s : State) (launch_date : ℕ) (v : Event)
    (places : ℕ) : Type 0 where
  pub short : places < length (settling_lines m s.figures launch_date s.tables v) →
      settling m s.figures launch_date s.tables places v ≡ Err refusal
  pub enough : length (settling_lines m s.figures launch_date s.tables v) ≤ places →
      settling m s.figures launch_date s.tables places v ≡
      Ok (settling_effect m s.figures launch_date s.tables v)

-- After an accepted commitment or raise a share-out on the same tables is refused for nothing but a
-- short strip.
abbrev pub ShareOutFollows : Refusal → Type 0
ShareOutFollows refusal =
    (m : Meaning) (f : Figures) (launch_date : ℕ) (t : Tables) (places : ℕ) (v : Event)
    (billed : Effect) →
    billing m f launch_date t places v ≡ Ok billed → (room : ℕ) →
    SharedOutOr refusal m billed.state launch_date v room

-- How many lines calls write: one for each operator, at most two for each object, at most one for
-- each operator and object.
pub record LinesCounted : Type 0 where
  pub charged : (m : Meaning) (o : RegisterEntry) (members : List Member) →
      length (charged m o members) ≡ length members
  pub billed : (m : Meaning) (a : Addition) (objects : List RegisterEntry) →
      length (bill m a objects) ≤ 2 * length objects
  pub credited : (m : Meaning) (a : Addition) (objects : List RegisterEntry)
      (members : List Member) →
      length (credits m a objects members) ≤ length members * length objects

-- The totals and balances of a state are at most a limit.
pub record AmountsFit (limit : ℕ) (s : State) : Type 0 where
  pub contributed : s.figures.totals.contributed ≤ limit
  pub credited : s.figures.totals.credited ≤ limit
  pub unshared : s.figures.totals.unshared ≤ limit
  pub credit_lines : s.figures.totals.credit_lines ≤ limit
  pub balances : AllByRecursion (λ e. e.balance ≤ limit) (counted_roll s.figures s.tables)

-- Every number of a state, and every number that an accepted call then writes on lines, is at most
-- a limit.
pub record NumbersFit (limit : ℕ) (m : Meaning) (s : State) : Type 0 where
  pub operators : s.figures.operators ≤ most_operators
  pub objects : s.figures.objects ≤ most_objects
  pub amounts : AmountsFit limit s
  pub lines : (places : ℕ) (call : Call) (effect : Effect) →
      answer_to m s places call ≡ Some (Ok effect) →
      AllByRecursion (λ l. (l.unit ≤ limit) × (l.total ≤ limit)) effect.lines

abbrev pub EveryLifeFits : ℕ → Type 0
EveryLifeFits limit = (m : Meaning) → Lawful m → (calls : List Made) (s : State) →
    Life m calls s → NumbersFit limit m s

-- What an accepted share-out leads to from a zone and tables of any history.
abbrev pub EveryShareOutFits : ℕ → Type 0
EveryShareOutFits limit =
    (m : Meaning) → Lawful m → (f : Figures) (launch_date : ℕ) (t : Tables) (places : ℕ)
    (v : Event) (effect : Effect) →
    f.operators ≤ most_operators → f.objects ≤ most_objects →
    AllByRecursion (λ e. length e.tranches ≡ years) (counted_roll f t) →
    settling m f launch_date t places v ≡ Ok effect → AmountsFit limit effect.state

-- The tranches that an operator has in a year index.
abbrev pub tranches_in : List Member → ℕ → ℕ → ℕ
tranches_in members operator index = slice_index (tranches_of operator members) index

-- One number k was billed, and what enters of k did so in the event's year index of its operator,
-- and nowhere else.
pub record EnteredAsBilled (enters : ℕ → ℕ) (m : Meaning) (before : State) (launch_date : ℕ)
    (v : Event) (billed after : Effect) : Type 0 where
  pub k : ℕ
  pub some : 0 < k
  pub lines : billed.lines ≡
      bill m (record {
        operator = v.operator;
        date = v.date;
        index = index_of launch_date v.date;
        tranches = k;
      }) (counted_register before.figures before.tables)
  pub entered : (operator index : ℕ) →
      tranches_in (counted_members after.state.figures after.state.tables) operator index ≡
      tranches_in (counted_members before.figures before.tables) operator index +
      cond (v.operator == operator && index_of launch_date v.date == index) (enters k) 0

abbrev pub BilledIsEntered : (ℕ → ℕ) → Type 0
BilledIsEntered enters =
    (m : Meaning) → Lawful m → (calls : List Made) (s : State) → Life m calls s →
    (launch_date : ℕ) → s.phase ≡ launched launch_date →
    (v : Event) (places : ℕ) (billed : Effect) →
    billing m s.figures launch_date s.tables places v ≡ Ok billed →
    (room : ℕ) (after : Effect) → settling m billed.state.figures launch_date billed.state.tables
    room v ≡ Ok after →
    EnteredAsBilled enters m s launch_date v billed after
