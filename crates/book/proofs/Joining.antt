-- Tranches that pass the checks of the roll find a place on it.
use Rattle.std.proofs.Common.{◌≡◌, ℕ, ◌≤◌, T, List, [], length, Ok, sym, ap, ◌∙◌, subst, arith}
use Rattle.std.proofs.lemmas.List.{length-take-le, length-map}
use Rattle.refusal.specs.Checks.{in_turn}
use Rattle.calendar.specs.Days.{is_date}
use Rattle.checks.specs.Numbers.{most_tranches}
use Rattle.book.specs.Limits.{most_operators}
use Rattle.book.specs.Lists.{written}
use Rattle.book.specs.Members.{Addition, addition, member_of, entered_roll, entered_members}
use Rattle.book.specs.Zone.{Tables, counted_roll, counted_members, preparing, Effect, dated, counting_operators}
use Rattle.book.specs.Refusals.{change_checks}
use Rattle.book.specs.Answers.{subscription_checks, subscription_effect}
use Rattle.book.specs.declared.entries.RollEntry.{RollEntry}
use Rattle.book.specs.declared.figures.Figures.{Figures}
use Rattle.book.specs.declared.event.Event.{Event}
use Rattle.book.specs.declared.event.Change.{Change}
use Rattle.book.specs.declared.event.Change.TheVariants.{Commitment, Raise}
use Rattle.book.proofs.Passing.{Clear, accepted_is, real_of}
use Rattle.book.proofs.Admitting.{Admitted}
use Rattle.book.proofs.Passed.{RollPassed, newcomer_passed, raise_passed, subscription_passed}
use Rattle.book.proofs.Entering.{members_entered, entered_length, entered_there}

module _ (f : Figures) (t : Tables) (v : Event) (index : ℕ) (long : f.operators ≤ length t.roll) where
  abbrev more : Addition
  more = addition index v (counted_members f t)

  -- how many entries there are then
  counted_is : length (counted_members f t) ≡ f.operators
  counted_is = length-map (counted_roll f t) member_of ∙ length-take-le f.operators t.roll long

  entered_is : length (entered_roll more (counted_roll f t)) ≡ length (entered_members more (counted_members f t))
  entered_is = sym (length-map (entered_roll more (counted_roll f t)) member_of) ∙ ap length (members_entered more (counted_roll f t))

  -- a place for each entry then
  pub record Fits : Type 0 where
    pub few : length (entered_roll more (counted_roll f t)) ≤ most_operators
    pub space : length (entered_roll more (counted_roll f t)) ≤ length t.roll

  by_change : (change : Change) → Clear (change_checks change f t v) → f.operators ≤ most_operators → Fits
  by_change Commitment clear few =
      let newcomer = newcomer_passed f t v clear in
      let below = newcomer.few in
      let free = newcomer.space in
      let most = entered_length more (counted_members f t) in
      let count = counted_is in
      let same = entered_is in
      record { few = omega arith; space = omega arith }
  by_change Raise clear few =
      let most = entered_there more (counted_members f t) (raise_passed f t v clear).there in
      let count = counted_is in
      let same = entered_is in
      record { few = omega arith; space = omega arith }

  pub finds_place : RollPassed f t v → f.operators ≤ most_operators → Fits
  finds_place passed few = by_change v.change passed.change few

  -- at most 20 tranches
  pub few_tranches : RollPassed f t v → more.tranches ≤ most_tranches
  few_tranches passed = let most = passed.rate_to in omega arith

-- what an accepted subscription tells
pub record Subscribable (f : Figures) (t : Tables) (v : Event) : Type 0 where
  pub tables_in : Admitted f t
  pub real : T (is_date v.date)
  pub rate : v.rate ≤ most_tranches
  pub few : (addition 0 v (counted_members f t)).tranches ≤ most_tranches
  pub fits : Fits f t v 0 tables_in.roll_long

pub subscribable : (f : Figures) (t : Tables) (v : Event) (u : Unit {0}) → f.operators ≤ most_operators → in_turn (subscription_checks f t v) tt ≡ Ok u → Subscribable f t v
subscribable f t v u few passes =
    let (clear, is) = accepted_is (subscription_checks f t v) tt u passes in
    let passed = subscription_passed f t v clear in
    record {
      tables_in = passed.tables;
      real = real_of v.date passed.real;
      rate = passed.roll.rate_to;
      few = few_tranches f t v 0 passed.tables.roll_long passed.roll;
      fits = finds_place f t v 0 passed.tables.roll_long passed.roll few;
    }

-- the same of what the code adds
pub room_of : (a b : Addition) (roll : List RollEntry) (n : ℕ) → a ≡ b → length (entered_roll b roll) ≤ n → length (entered_roll a roll) ≤ n
room_of a b roll n is room = subst (λ x. length (entered_roll x roll) ≤ n) (sym is) room

pub subscription_done : (f : Figures) (t : Tables) (v : Event) (a : Addition) (n : ℕ) (roll : List RollEntry) →
    a ≡ addition 0 v (counted_members f t) → n ≡ length (entered_roll a (counted_roll f t)) → roll ≡ written (entered_roll a (counted_roll f t)) t.roll →
    ◌≡◌ {A = Effect} (record { state = record { figures = counting_operators n (dated v.date f); phase = preparing; tables = record { roll = roll; register = t.register } }; lines = [] }) (subscription_effect f t v)
subscription_done f t v a n roll is count after =
    let counted = count ∙ ap (λ x. length (entered_roll x (counted_roll f t))) is in
    let entered = after ∙ ap (λ x. written (entered_roll x (counted_roll f t)) t.roll) is in
    (λ i. record { state = record { figures = counting_operators (counted i) (dated v.date f); phase = preparing; tables = record { roll = entered i; register = t.register } }; lines = [] })
