-- What passed checks tell of an event that is billed, and what billing it leads to.
use Rattle.std.proofs.Common.{◌≡◌, ℕ, ◌+◌, ◌≤◌, Bool, true, false, cond, T, List, [], ◌∷◌, length, take, Ok, sym, refl, ap, ◌∙◌, subst}
use Rattle.std.proofs.lemmas.List.{length-append, take_at}
use Rattle.refusal.specs.Checks.{in_turn}
use Rattle.calendar.specs.Days.{is_date, index_of}
use Rattle.tariff.specs.Meaning.{Meaning}
use Rattle.checks.specs.Numbers.{most_tranches}
use Rattle.book.specs.Limits.{most_index}
use Rattle.book.specs.Lists.{written}
use Rattle.book.specs.Lines.{line}
use Rattle.book.specs.Members.{Addition}
use Rattle.unit_prices.specs.Prices.{earlier, unit_price, unit_contribution}
use Rattle.book.specs.Billing.{billed, bill}
use Rattle.book.specs.Zone.{Tables, counted_register, levied, Effect, dated}
use Rattle.book.specs.Answers.{added, billing_lines, billing_checks, billing_effect}
use Rattle.book.specs.Increases.{lines_of, lines_billed}
use Rattle.book.specs.declared.entries.RegisterEntry.{RegisterEntry}
use Rattle.book.specs.declared.lines.Line.{Line}
use Rattle.book.specs.declared.lines.Nature.TheVariants.{Charge, Contribution}
use Rattle.book.specs.declared.figures.Figures.{Figures}
use Rattle.book.specs.declared.event.Event.{Event}
use Rattle.book.proofs.Passing.{accepted_is, real_of}
use Rattle.book.proofs.Admitting.{Admitted}
use Rattle.book.proofs.Passed.{billing_passed}
use Rattle.book.proofs.Joining.{few_tranches}

-- each object has as many lines as are counted for it
one_or_two : {A : Type 0} (b : Bool) (x y : A) → length (x ∷ cond b (y ∷ []) []) ≡ cond b 2 1
one_or_two true x y = refl
one_or_two false x y = refl

one_counted : (m : Meaning) (a : Addition) (o : RegisterEntry) → length (billed m a o) ≡ lines_of a.date o
one_counted m a o =
    one_or_two (earlier o.installed a.date)
    (line Charge a.operator o.object (unit_price m o.kind o.installed a.date a.tranches) o.dwellings)
    (line Contribution a.operator o.object (unit_contribution m o.kind o.installed a.date a.tranches) o.dwellings)

pub counted_lines : (m : Meaning) (a : Addition) (objects : List RegisterEntry) → length (bill m a objects) ≡ lines_billed a.date objects
counted_lines m a [] = refl
counted_lines m a (o ∷ os) =
    length-append (billed m a o) (bill m a os) ∙ (λ i. one_counted m a o i + counted_lines m a os i)

module _ (m : Meaning) (f : Figures) (launch_date : ℕ) (t : Tables) (places : ℕ) (v : Event) where
  pub record Billable : Type 0 where
    pub tables_in : Admitted f t
    pub real : T (is_date v.date)
    pub in_time : index_of launch_date v.date ≤ most_index
    pub rate : v.rate ≤ most_tranches
    pub few : (added f launch_date t v).tranches ≤ most_tranches
    pub room : length (billing_lines m f launch_date t v) ≤ places

  pub billable : (u : Unit {0}) → in_turn (billing_checks m f launch_date t places v) tt ≡ Ok u → Billable
  billable u passes =
      let (clear, is) = accepted_is (billing_checks m f launch_date t places v) tt u passes in
      let passed = billing_passed m f launch_date t places v clear in
      record {
        tables_in = passed.tables;
        real = real_of v.date passed.date.real;
        in_time = passed.date.in_time;
        rate = passed.roll.rate_to;
        few = few_tranches f t v (index_of launch_date v.date) passed.tables.roll_long passed.roll;
        room = passed.room;
      }

  -- what the code does is the effect
  pub billed_is : (a : Addition) (old strip : List Line) (n : ℕ) → a ≡ added f launch_date t v → n ≡ length (bill m a (counted_register f t)) → strip ≡ written (bill m a (counted_register f t)) old →
      ◌≡◌ {A = Effect} (record { state = record { figures = dated v.date f; phase = levied launch_date v; tables = t }; lines = take n strip }) (billing_effect m f launch_date t v)
  billed_is a old strip n is count lines =
      let shown : take n strip ≡ bill m a (counted_register f t) = ap (take n) lines ∙ take_at (bill m a (counted_register f t)) _ n (sym count) in
      let own = shown ∙ ap (λ x. bill m x (counted_register f t)) is in
      (λ i. record { state = record { figures = dated v.date f; phase = levied launch_date v; tables = t }; lines = own i })

  pub written_is : (a : Addition) (old strip : List Line) → a ≡ added f launch_date t v → strip ≡ written (bill m a (counted_register f t)) old → strip ≡ written (billing_lines m f launch_date t v) old
  written_is a old strip is lines = lines ∙ ap (λ x. written (bill m x (counted_register f t)) old) is

  pub room_for : (a : Addition) → a ≡ added f launch_date t v → length (billing_lines m f launch_date t v) ≤ places → length (bill m a (counted_register f t)) ≤ places
  room_for a is room = subst (λ x. length (bill m x (counted_register f t)) ≤ places) (sym is) room
