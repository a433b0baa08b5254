-- What the tables' check tells of the entries that a call counts, and of the zone's plain numbers.
use Rattle.std.proofs.Common.{◌≡◌, ℕ, ◌≤◌, Bool, true, false, List, [], ◌∷◌, length, refl, arith, ◌||◌}
use Rattle.std.specs.List.{list_any}
use Rattle.std.proofs.lemmas.Bool.{ltb-false}
use Rattle.checks.specs.Numbers.{bad_rate}
use Rattle.checks.specs.Tables.{one_of}
use Rattle.checks.proofs.GoodTables.{all_fail, good_table}
use Rattle.book.specs.Limits.{most_amount}
use Rattle.book.specs.Members.{rate_of}
use Rattle.book.specs.Zone.{Tables, counted_roll, counted_register}
use Rattle.book.specs.Refusals.{entry_faults, object_faults, table_faults}
use Rattle.book.specs.declared.entries.RollEntry.{RollEntry}
use Rattle.book.specs.declared.entries.RegisterEntry.{RegisterEntry}
use Rattle.book.specs.declared.figures.Figures.{Figures}

pub record Admitted (f : Figures) (t : Tables) : Type 0 where
  pub roll_long : f.operators ≤ length t.roll
  pub register_long : f.objects ≤ length t.register
  pub entries_sound : list_any (λ e. one_of (entry_faults e)) (counted_roll f t) ≡ false
  pub objects_sound : list_any (λ o. one_of (object_faults o)) (counted_register f t) ≡ false
  pub contributed : f.totals.contributed ≤ most_amount
  pub credited : f.totals.credited ≤ most_amount
  pub unshared : f.totals.unshared ≤ most_amount
  pub credit_lines : f.totals.credit_lines ≤ most_amount

pub admitted : (f : Figures) (t : Tables) → one_of (table_faults f t) ≡ false → Admitted f t
admitted f t none =
    let (roll_good, (register_good, (operators, (objects, (contributed, (credited, (unshared, (credit_lines, end)))))))) = all_fail (table_faults f t) none in
    let roll = good_table (λ (e : RollEntry). e.operator) (λ e. one_of (entry_faults e)) f.operators t.roll roll_good in
    let register = good_table (λ (o : RegisterEntry). o.object) (λ o. one_of (object_faults o)) f.objects t.register register_good in
    record {
      roll_long = roll.long;
      register_long = register.long;
      entries_sound = roll.sound;
      objects_sound = register.sound;
      contributed = ltb-false most_amount f.totals.contributed contributed;
      credited = ltb-false most_amount f.totals.credited credited;
      unshared = ltb-false most_amount f.totals.unshared unshared;
      credit_lines = ltb-false most_amount f.totals.credit_lines credit_lines;
    }

-- an entry within its limits has a rate within its limits
rate_of_one : (number rate balance : Bool) → one_of (number ∷ rate ∷ balance ∷ []) ≡ false → rate ≡ false
rate_of_one number rate balance none = let (numbered, (rated, rest)) = all_fail (number ∷ rate ∷ balance ∷ []) none in rated

any_less : {A : Type 0} (p q : A → Bool) → ((x : A) → p x ≡ false → q x ≡ false) → (xs : List A) → list_any p xs ≡ false → list_any q xs ≡ false
any_less p q less [] none = refl
any_less p q less (x ∷ xs) none = go (p x) (less x) none refl (any_less p q less xs)
  where
    go : (b : Bool) → (p x ≡ false → q x ≡ false) → (b || list_any p xs) ≡ false → p x ≡ b → (list_any p xs ≡ false → list_any q xs ≡ false) → (q x || list_any q xs) ≡ false
    go true one h is rest = let z : ◌≡◌ {A = ℕ} 0 1 = cc in absurd (omega arith)
    go false one h is rest = rw (one is) (rest h)

pub rates_sound : (roll : List RollEntry) → list_any (λ e. one_of (entry_faults e)) roll ≡ false → list_any (λ e. bad_rate (rate_of e.tranches)) roll ≡ false
rates_sound roll none = any_less (λ e. one_of (entry_faults e)) (λ e. bad_rate (rate_of e.tranches)) (λ e h. rate_of_one _ _ _ h) roll none
