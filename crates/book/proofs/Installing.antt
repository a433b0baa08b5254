-- What passed checks tell of an object that is entered, and what entering it leads to.
use Rattle.std.proofs.Common.{◌≡◌, ℕ, ◌+◌, ◌<◌, ◌≤◌, false, List, [], ◌∷◌, length, take, set, Ok, sym, ap, ◌∙◌, arith}
use Rattle.std.proofs.lemmas.List.{length-take-le, length-append, take_at}
use Rattle.refusal.specs.Checks.{in_turn}
use Rattle.tariff.specs.Meaning.{Meaning}
use Rattle.checks.specs.Tables.{one_of}
use Rattle.book.specs.Limits.{most_objects}
use Rattle.book.specs.Lists.{written}
use Rattle.book.specs.Billing.{charged}
use Rattle.book.specs.Zone.{Tables, counted_register, counted_members, launched, Effect, dated, counting_objects}
use Rattle.book.specs.Refusals.{object_faults}
use Rattle.book.specs.Answers.{installation_checks, installation_effect, installed_register}
use Rattle.book.specs.declared.entries.RegisterEntry.{RegisterEntry}
use Rattle.book.specs.declared.lines.Line.{Line}
use Rattle.book.specs.declared.figures.Figures.{Figures}
use Rattle.book.proofs.Passing.{accepted_is}
use Rattle.book.proofs.Admitting.{Admitted}
use Rattle.book.proofs.Passed.{installation_passed}
use Rattle.book.proofs.Subscribing.{last_written}

module _ (m : Meaning) (f : Figures) (launch_date : ℕ) (t : Tables) (places : ℕ) (o : RegisterEntry) where
  abbrev lines_due : ℕ
  lines_due = length (charged m o (counted_members f t))

  pub record Installable : Type 0 where
    pub tables_in : Admitted f t
    pub object_sound : one_of (object_faults o) ≡ false
    pub room : length (charged m o (counted_members f t)) ≤ places
    pub space : f.objects < length t.register
    pub fewer : f.objects < most_objects

  pub installable : (u : Unit {0}) → in_turn (installation_checks m f launch_date t places o) tt ≡ Ok u → Installable
  installable u passes =
      let (clear, is) = accepted_is (installation_checks m f launch_date t places o) tt u passes in
      let passed = installation_passed m f launch_date t places o clear in
      record {
        tables_in = passed.tables;
        object_sound = rw (passed.register.number, passed.date.real, passed.register.dwellings);
        room = passed.room;
        space = passed.register.space;
        fewer = passed.register.few;
      }

  -- what the code does is the effect
  pub installed_is : f.objects < length t.register → (old strip : List Line) (n : ℕ) (register : List RegisterEntry) → n ≡ lines_due → strip ≡ written (charged m o (counted_members f t)) old → register ≡ set t.register f.objects o →
      ◌≡◌ {A = Effect} (record { state = record { figures = counting_objects (f.objects + 1) (dated o.installed f); phase = launched launch_date; tables = record { roll = t.roll; register = register } }; lines = take n strip }) (installation_effect m f launch_date t o)
  installed_is space old strip n register count lines after =
      let long : f.objects ≤ length t.register = omega arith in
      let counted : f.objects + 1 ≡ length (installed_register f t o) = omega (arith, length-append (counted_register f t) (o ∷ []), length-take-le f.objects t.register long) in
      let entered : register ≡ written (installed_register f t o) t.register = after ∙ last_written t.register f.objects long o space in
      let shown : take n strip ≡ charged m o (counted_members f t) = ap (take n) lines ∙ take_at (charged m o (counted_members f t)) _ n (sym count) in
      (λ i. record { state = record { figures = counting_objects (counted i) (dated o.installed f); phase = launched launch_date; tables = record { roll = t.roll; register = entered i } }; lines = shown i })
