-- What passed checks tell of a levy that is shared out, and what sharing it out leads to.
use Rattle.std.proofs.Common.{◌≡◌, ℕ, ◌+◌, ◌≤◌, List, length, take, Ok, sym, ap, ◌∙◌, subst, arith}
use Rattle.std.proofs.lemmas.List.{take_at}
use Rattle.refusal.specs.Checks.{in_turn}
use Rattle.calendar.specs.Days.{index_of}
use Rattle.tariff.specs.Meaning.{Meaning}
use Rattle.checks.specs.Numbers.{most_tranches}
use Rattle.book.specs.Limits.{most_operators}
use Rattle.book.specs.Lists.{total, written}
use Rattle.book.specs.Members.{Addition, entered_roll}
use Rattle.book.specs.Sharing.{object_contribution, credits, left_unshared}
use Rattle.book.specs.Zone.{Tables, counted_roll, counted_register, counted_members, launched, Effect}
use Rattle.book.specs.Answers.{added, credited_roll, settling_lines, settling_checks, settling_effect}
use Rattle.book.specs.declared.entries.RollEntry.{RollEntry}
use Rattle.book.specs.declared.lines.Line.{Line}
use Rattle.book.specs.declared.figures.Totals.{Totals}
use Rattle.book.specs.declared.figures.Figures.{Figures}
use Rattle.book.specs.declared.event.Event.{Event}
use Rattle.book.proofs.Passing.{accepted_is}
use Rattle.book.proofs.Admitting.{Admitted}
use Rattle.book.proofs.Passed.{settling_passed}
use Rattle.book.proofs.Joining.{Fits, few_tranches, finds_place}

module _ (m : Meaning) (f : Figures) (launch_date : ℕ) (t : Tables) (places : ℕ) (v : Event) where
  pub record Settleable : Type 0 where
    pub tables_in : Admitted f t
    pub rate : v.rate ≤ most_tranches
    pub few : (added f launch_date t v).tranches ≤ most_tranches
    pub fits : Fits f t v (index_of launch_date v.date) tables_in.roll_long
    pub room : length (settling_lines m f launch_date t v) ≤ places

  pub settleable : (u : Unit {0}) → f.operators ≤ most_operators → in_turn (settling_checks m f launch_date t places v) tt ≡ Ok u → Settleable
  settleable u few passes =
      let (clear, is) = accepted_is (settling_checks m f launch_date t places v) tt u passes in
      let passed = settling_passed m f launch_date t places v clear in
      record {
        tables_in = passed.tables;
        rate = passed.roll.rate_to;
        few = few_tranches f t v (index_of launch_date v.date) passed.tables.roll_long passed.roll;
        fits = finds_place f t v (index_of launch_date v.date) passed.tables.roll_long passed.roll few;
        room = passed.room;
      }

  -- what the code does is the effect
  pub settled_is : (a : Addition) (moved : Totals) (count : ℕ) (roll : List RollEntry) (old strip : List Line) → a ≡ added f launch_date t v →
      moved.contributed ≡ total (object_contribution m a) (counted_register f t) →
      moved.credited ≡ total (λ l. l.total) (credits m a (counted_register f t) (counted_members f t)) →
      moved.unshared ≡ left_unshared m a (counted_register f t) (counted_members f t) →
      moved.credit_lines ≡ length (credits m a (counted_register f t) (counted_members f t)) →
      count ≡ length (entered_roll a (credited_roll m a (counted_register f t) (counted_roll f t))) →
      roll ≡ written (entered_roll a (credited_roll m a (counted_register f t) (counted_roll f t))) t.roll →
      strip ≡ written (credits m a (counted_register f t) (counted_members f t)) old →
      ◌≡◌ {A = Effect}
      (record {
        state = record {
          figures = record {
            last = f.last;
            operators = count;
            objects = f.objects;
            totals = record {
              contributed = f.totals.contributed + moved.contributed;
              credited = f.totals.credited + moved.credited;
              unshared = f.totals.unshared + moved.unshared;
              credit_lines = f.totals.credit_lines + moved.credit_lines;
            };
          };
          phase = launched launch_date;
          tables = record { roll = roll; register = t.register };
        };
        lines = take moved.credit_lines strip;
      })
      (settling_effect m f launch_date t v)
  settled_is a moved count roll old strip is contributed credited unshared number counted after lines =
      let os = counted_register f t in
      let xs = counted_members f t in
      let c = contributed ∙ ap (λ x. total (object_contribution m x) os) is in
      let d = credited ∙ ap (λ x. total (λ (l : Line). l.total) (credits m x os xs)) is in
      let u = unshared ∙ ap (λ x. left_unshared m x os xs) is in
      let n = number ∙ ap (λ x. length (credits m x os xs)) is in
      let k = counted ∙ ap (λ x. length (entered_roll x (credited_roll m x os (counted_roll f t)))) is in
      let r = after ∙ ap (λ x. written (entered_roll x (credited_roll m x os (counted_roll f t))) t.roll) is in
      let shown : take moved.credit_lines strip ≡ credits m a os xs = ap (take moved.credit_lines) lines ∙ take_at (credits m a os xs) _ moved.credit_lines (sym number) in
      let own = shown ∙ ap (λ x. credits m x os xs) is in
      (λ i. record {
        state = record {
          figures = record {
            last = f.last;
            operators = k i;
            objects = f.objects;
            totals = record {
              contributed = f.totals.contributed + c i;
              credited = f.totals.credited + d i;
              unshared = f.totals.unshared + u i;
              credit_lines = f.totals.credit_lines + n i;
            };
          };
          phase = launched launch_date;
          tables = record { roll = r i; register = t.register };
        };
        lines = own i;
      })

  pub written_is : (a : Addition) (old strip : List Line) → a ≡ added f launch_date t v → strip ≡ written (credits m a (counted_register f t) (counted_members f t)) old → strip ≡ written (settling_lines m f launch_date t v) old
  written_is a old strip is lines = lines ∙ ap (λ x. written (credits m x (counted_register f t) (counted_members f t)) old) is

  pub room_for : (a : Addition) → a ≡ added f launch_date t v → length (settling_lines m f launch_date t v) ≤ places → length (credits m a (counted_register f t) (counted_members f t)) ≤ places
  room_for a is room = subst (λ x. length (credits m x (counted_register f t) (counted_members f t)) ≤ places) (sym is) room

  -- the credits leave the number of entries
  pub few_entered : (a : Addition) (count : ℕ) → a ≡ added f launch_date t v → length (entered_roll (added f launch_date t v) (counted_roll f t)) ≤ most_operators → count ≡ length (entered_roll a (credited_roll m a (counted_register f t) (counted_roll f t))) → length (entered_roll a (credited_roll m a (counted_register f t) (counted_roll f t))) ≡ length (entered_roll a (counted_roll f t)) → count ≤ most_operators
  few_entered a count is few counted same =
      let here : length (entered_roll a (counted_roll f t)) ≤ most_operators = subst (λ x. length (entered_roll x (counted_roll f t)) ≤ most_operators) (sym is) few in
      omega (arith, counted, same, here)
