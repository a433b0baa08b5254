-- What the checks of each place tell of a call that passed them.
use Rattle.std.proofs.Common.{◌≡◌, ℕ, ◌<◌, ◌≤◌, false, not, eqb, leb, length, is_none}
use Rattle.std.proofs.lemmas.Bool.{or_parts, leb-false, ltb-false}
use Rattle.calendar.specs.Days.{is_date, index_of}
use Rattle.tariff.specs.Meaning.{Meaning}
use Rattle.checks.specs.Numbers.{most_tranches, bad_dwellings}
use Rattle.book.specs.Limits.{most_operators, most_objects, most_index}
use Rattle.book.specs.Members.{member, present_rate}
use Rattle.book.specs.Billing.{charged}
use Rattle.book.specs.Zone.{Tables, counted_members}
use Rattle.book.specs.Refusals.{table_checks, change_checks, roll_checks, register_checks, launched_date_checks, strip_checks}
use Rattle.book.specs.Answers.{subscription_checks, installation_checks, billing_lines, billing_checks, settling_lines, settling_checks}
use Rattle.book.specs.declared.entries.RegisterEntry.{RegisterEntry}
use Rattle.book.specs.declared.figures.Figures.{Figures}
use Rattle.book.specs.declared.event.Change.TheVariants.{Commitment, Raise}
use Rattle.book.specs.declared.event.Event.{Event}
use Rattle.book.proofs.Passing.{Clear, AllClear, inside}
use Rattle.book.proofs.Admitting.{Admitted, admitted}

pub tables_passed : (f : Figures) (t : Tables) → Clear (table_checks f t) → Admitted f t
tables_passed f t ok = let (lawful, end) = ok in admitted f t lawful

-- the date of a launched zone
pub record DatePassed (f : Figures) (launch_date date : ℕ) : Type 0 where
  pub real : not (is_date date) ≡ false
  pub in_time : index_of launch_date date ≤ most_index

pub date_passed : (f : Figures) (launch_date date : ℕ) → Clear (launched_date_checks f launch_date date) → DatePassed f launch_date date
date_passed f launch_date date ok =
    let (real, (in_order, (in_time, end))) = ok in
    record { real = real; in_time = ltb-false most_index (index_of launch_date date) in_time }

-- the roll
pub record RollPassed (f : Figures) (t : Tables) (v : Event) : Type 0 where
  pub rate_from : 1 ≤ v.rate
  pub rate_to : v.rate ≤ most_tranches
  pub change : Clear (change_checks v.change f t v)

pub roll_passed : (f : Figures) (t : Tables) (v : Event) → Clear (roll_checks f t v) → RollPassed f t v
roll_passed f t v ok =
    let (operator, (rate, change)) = ok in
    let (from, to) = inside 1 v.rate most_tranches rate in
    record { rate_from = from; rate_to = to; change = change }

pub record NewcomerPassed (f : Figures) (t : Tables) (v : Event) : Type 0 where
  pub new : not (is_none (member v.operator (counted_members f t))) ≡ false
  pub few : f.operators < most_operators
  pub space : f.operators < length t.roll

pub newcomer_passed : (f : Figures) (t : Tables) (v : Event) → Clear (change_checks Commitment f t v) → NewcomerPassed f t v
newcomer_passed f t v ok =
    let (new, (room, end)) = ok in
    let (few, space) = or_parts (leb most_operators f.operators) (leb (length t.roll) f.operators) room in
    record { new = new; few = leb-false most_operators f.operators few; space = leb-false (length t.roll) f.operators space }

pub record RaisePassed (f : Figures) (t : Tables) (v : Event) : Type 0 where
  pub there : is_none (member v.operator (counted_members f t)) ≡ false
  pub above : present_rate v.operator (counted_members f t) < v.rate

pub raise_passed : (f : Figures) (t : Tables) (v : Event) → Clear (change_checks Raise f t v) → RaisePassed f t v
raise_passed f t v ok =
    let (there, (above, end)) = ok in
    record { there = there; above = leb-false v.rate (present_rate v.operator (counted_members f t)) above }

-- the register
pub record RegisterPassed (f : Figures) (t : Tables) (o : RegisterEntry) : Type 0 where
  pub number : eqb o.object 0 ≡ false
  pub dwellings : bad_dwellings o.dwellings ≡ false
  pub few : f.objects < most_objects
  pub space : f.objects < length t.register

pub register_passed : (f : Figures) (t : Tables) (o : RegisterEntry) → Clear (register_checks f t o) → RegisterPassed f t o
register_passed f t o ok =
    let (number, (new, (dwellings, (room, end)))) = ok in
    let (few, space) = or_parts (leb most_objects f.objects) (leb (length t.register) f.objects) room in
    record {
      number = number;
      dwellings = dwellings;
      few = leb-false most_objects f.objects few;
      space = leb-false (length t.register) f.objects space;
    }

-- the strip
strip_passed : (places lines : ℕ) → Clear (strip_checks places lines) → lines ≤ places
strip_passed places lines ok = let (room, end) = ok in ltb-false places lines room

-- each call
pub record SubscriptionPassed (f : Figures) (t : Tables) (v : Event) : Type 0 where
  pub tables : Admitted f t
  pub real : not (is_date v.date) ≡ false
  pub roll : RollPassed f t v

pub subscription_passed : (f : Figures) (t : Tables) (v : Event) → AllClear (subscription_checks f t v) → SubscriptionPassed f t v
subscription_passed f t v ok =
    let (tables, ((real, in_order), (roll, end))) = ok in
    record { tables = tables_passed f t tables; real = real; roll = roll_passed f t v roll }

module _ (m : Meaning) (f : Figures) (launch_date : ℕ) (t : Tables) (places : ℕ) where
  pub record InstallationPassed (o : RegisterEntry) : Type 0 where
    pub tables : Admitted f t
    pub date : DatePassed f launch_date o.installed
    pub register : RegisterPassed f t o
    pub room : length (charged m o (counted_members f t)) ≤ places

  pub installation_passed : (o : RegisterEntry) → AllClear (installation_checks m f launch_date t places o) → InstallationPassed o
  installation_passed o ok =
      let (tables, (date, (register, (prices, (strip, end))))) = ok in
      record {
        tables = tables_passed f t tables;
        date = date_passed f launch_date o.installed date;
        register = register_passed f t o register;
        room = strip_passed places (length (charged m o (counted_members f t))) strip;
      }

  pub record BillingPassed (v : Event) : Type 0 where
    pub tables : Admitted f t
    pub date : DatePassed f launch_date v.date
    pub roll : RollPassed f t v
    pub room : length (billing_lines m f launch_date t v) ≤ places

  pub billing_passed : (v : Event) → AllClear (billing_checks m f launch_date t places v) → BillingPassed v
  billing_passed v ok =
      let (tables, (date, (roll, (sheet, (strip, end))))) = ok in
      record {
        tables = tables_passed f t tables;
        date = date_passed f launch_date v.date date;
        roll = roll_passed f t v roll;
        room = strip_passed places (length (billing_lines m f launch_date t v)) strip;
      }

  pub record SettlingPassed (v : Event) : Type 0 where
    pub tables : Admitted f t
    pub roll : RollPassed f t v
    pub room : length (settling_lines m f launch_date t v) ≤ places

  pub settling_passed : (v : Event) → AllClear (settling_checks m f launch_date t places v) → SettlingPassed v
  settling_passed v ok =
      let (tables, (roll, (prices, (strip, end)))) = ok in
      record {
        tables = tables_passed f t tables;
        roll = roll_passed f t v roll;
        room = strip_passed places (length (settling_lines m f launch_date t v)) strip;
      }
