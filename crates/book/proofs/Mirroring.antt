-- Every call of a life keeps zone and tables as the tally has them, and the tally within its bounds.
use Rattle.std.proofs.Common.{◌≡◌, ℕ, ◌+◌, ◌-◌, ◌*◌, ◌<◌, ◌≤◌, false, List, [], ◌∷◌, ◌++◌, length, drop, Some, None, Option, sym, refl, ap, ◌∙◌, subst, arith, length-append, length-take, is_none}
use Rattle.std.proofs.lemmas.List.{length-map}
use Rattle.std.specs.List.{AllByRecursion}
use Rattle.calendar.specs.Days.{index_of}
use Rattle.tariff.specs.Meaning.{Meaning, Lawful}
use Rattle.checks.specs.Tables.{one_of}
use Rattle.book.specs.Limits.{most_credit_lines}
use Rattle.book.specs.Lists.{total}
use Rattle.book.specs.Members.{Member, member_of, members_of, rate_of, member, present_rate, Addition, addition, entered_members, whole_weight}
use Rattle.book.specs.Sharing.{object_contribution, payout, credits, left_unshared}
use Rattle.book.specs.Zone.{Tables, counted_roll, counted_register, counted_members, Phase, preparing, launched, levied, State, Answer, state_after}
use Rattle.book.specs.Refusals.{entry_faults, object_faults, change_checks}
use Rattle.book.specs.Calls.{Call, commitment, raise, launch, opening, cabling, share_out, commitment_event, raise_event, opened, cabled}
use Rattle.book.specs.Answers.{subscription_checks, subscription_effect, subscription, subscribed_roll, launching_checks, launching_effect, launching, installation_checks, installed_register, installation_effect, installation, billing_checks, billing_effect, billing, settling_lines, settling_checks, settled_roll, settled_totals, settling_effect, settling}
use Rattle.book.specs.Tally.{Made, Tally, event_noted, object_noted, credited_members, shared_totals, settled, share_out_noted, noted, fed, tallied}
use Rattle.book.specs.Life.{answer_to_event, answer_to_object, answer_to, made, Life, begins, goes_on}
use Rattle.book.specs.declared.entries.RollEntry.{RollEntry}
use Rattle.book.specs.declared.entries.RegisterEntry.{RegisterEntry}
use Rattle.book.specs.declared.lines.Line.{Line}
use Rattle.book.specs.declared.figures.Totals.{Totals}
use Rattle.book.specs.declared.figures.Figures.{Figures}
use Rattle.book.specs.declared.event.Change.{Change}
use Rattle.book.specs.declared.event.Change.TheVariants.{Commitment, Raise}
use Rattle.book.specs.declared.event.Event.{Event}
use Rattle.book.proofs.Totals.{all_also, all_of, take_front}
use Rattle.book.proofs.Passing.{Clear, AllClear, settles, none_of}
use Rattle.book.proofs.Admitting.{Admitted}
use Rattle.book.proofs.Passed.{RollPassed, newcomer_passed, raise_passed, SettlingPassed, subscription_passed, installation_passed, billing_passed, settling_passed}
use Rattle.book.proofs.Soundness.{sound_of, sized_of}
use Rattle.book.proofs.Entering.{members_entered, entered_balances, entered_length, entered_there, Shaped, entered_shaped, paid_shaped, paid_tranches, paid_there}
use Rattle.book.proofs.Amounts.{Rated, Sized}
use Rattle.book.proofs.Holding.{Within}
use Rattle.book.proofs.Sharing.{credits_total, credits_count}
use Rattle.book.proofs.Settling.{settled_members, contributed_most, balances_grow, held_within, dues_most}
use Rattle.book.proofs.Growing.{rates_of, rates_grow, rated_stays, present_most, stranger, paid_rated, paid_rates}

-- launch date and event of a phase
abbrev pub Matches : Tally → Phase → Type 0
Matches T preparing = (T.launch_date ≡ None) × (T.event ≡ None)
Matches T (launched day) = (T.launch_date ≡ Some day) × (T.event ≡ None)
Matches T (levied day v) = (T.launch_date ≡ Some day) × (T.event ≡ Some v)

-- an open levy's event lies within the years of a life
abbrev pub InTime : Phase → Type 0
InTime preparing = Unit {0}
InTime (launched day) = Unit {0}
InTime (levied day v) = index_of day v.date ≤ 40

-- what the numbers of a tally keep to: its totals by the tranches that all members have
pub record Bounds (T : Tally) : Type 0 where
  pub few : length T.members ≤ 16
  pub few_objects : length T.objects ≤ 1024
  pub shaped : AllByRecursion Shaped T.members
  pub rated : AllByRecursion Rated T.members
  pub credited : T.totals.credited ≡ total (λ x. x.balance) T.members
  pub contributed : T.totals.contributed ≤ 5120000000000000 * rates_of T.members
  pub lines : T.totals.credit_lines ≤ most_credit_lines * rates_of T.members
  pub within : Within T.totals.credit_lines T.totals.contributed (total (λ x. x.balance) T.members + T.totals.unshared)

pub record Mirror (T : Tally) (s : State) : Type 0 where
  pub members : counted_members s.figures s.tables ≡ T.members
  pub objects : counted_register s.figures s.tables ≡ T.objects
  pub operators_counted : s.figures.operators ≡ length T.members
  pub objects_counted : s.figures.objects ≡ length T.objects
  pub totals : s.figures.totals ≡ T.totals
  pub phase : Matches T s.phase
  pub in_time : InTime s.phase
  pub bounds : Bounds T

abbrev Stays : Meaning → Tally → State → Call → Answer → Type 0
Stays m T s c answer = Mirror (fed m (made c answer) T) (state_after s answer)

-- what the checks leave of the entries
rated_entry : (e : RollEntry) → one_of (entry_faults e) ≡ false → Rated (member_of e)
rated_entry e h = (sound_of e h).rate

module _ (f : Figures) (t : Tables) where
  pub members_rated : Admitted f t → AllByRecursion Rated (counted_members f t)
  members_rated lawful = all_of Rated member_of (counted_roll f t) (all_also rated_entry (counted_roll f t) (none_of (λ e. one_of (entry_faults e)) (counted_roll f t) lawful.entries_sound))

  pub objects_sized : Admitted f t → AllByRecursion Sized (counted_register f t)
  objects_sized lawful = all_also sized_of (counted_register f t) (none_of (λ o. one_of (object_faults o)) (counted_register f t) lawful.objects_sound)

  -- an event that passes adds something
  pub some_added : (v : Event) → RollPassed f t v → 0 < v.rate - present_rate v.operator (counted_members f t)
  some_added v passed = go v.change passed.change
    where
      go : (change : Change) → Clear (change_checks change f t v) → 0 < v.rate - present_rate v.operator (counted_members f t)
      go Commitment c =
          let z = stranger (member v.operator (counted_members f t)) (newcomer_passed f t v c).new in let r = passed.rate_from in omega arith
      go Raise c = let r = (raise_passed f t v c).above in omega arith

  pub length_counted : length (counted_members f t) ≤ f.operators
  length_counted = let l = length-map (counted_roll f t) member_of in let k = length-take f.operators t.roll in omega arith

  -- an event that passes leaves at most 16 operators
  pub short_enough : (v : Event) (a : Addition) → a.operator ≡ v.operator → (xs : List Member) → length xs ≡ length (counted_members f t) →
      is_none (member v.operator xs) ≡ is_none (member v.operator (counted_members f t)) →
      length (counted_members f t) ≤ 16 → RollPassed f t v → length (entered_members a xs) ≤ 16
  short_enough v a same xs long there few passed = go v.change passed.change
    where
      go : (change : Change) → Clear (change_checks change f t v) → length (entered_members a xs) ≤ 16
      go Commitment c =
          let free = (newcomer_passed f t v c).few in
          let k = length_counted in let l = entered_length a xs in omega arith
      go Raise c =
          let l = entered_there a xs (ap (λ n. is_none (member n xs)) same ∙ there ∙ (raise_passed f t v c).there) in omega arith

-- the answer that a phase gives
pub given_is : {A : Type 0} (x y : A) → Some x ≡ Some y → x ≡ y
given_is x y e = cc

pub none_given : {A : Type 0} (y : A) (P : Type 0) → ◌≡◌ {A = Option A} None (Some y) → P
none_given y P e = let z : ◌≡◌ {A = ℕ} 0 1 = cc in absurd (omega arith)

totals_same : (a b : Totals) → a.contributed ≡ b.contributed → a.credited ≡ b.credited → a.unshared ≡ b.unshared → a.credit_lines ≡ b.credit_lines → a ≡ b
totals_same a b p q r s = λ i. record { contributed = p i; credited = q i; unshared = r i; credit_lines = s i }

module _ (m : Meaning) (law : Lawful m) (T : Tally) (f : Figures) (t : Tables) (places : ℕ) where
  -- tranches entered before the launch
  subscription_mirrors : (v : Event) → Mirror T (record { figures = f; phase = preparing; tables = t }) → AllClear (subscription_checks f t v) →
      Mirror (event_noted v None T) (subscription_effect f t v).state
  subscription_mirrors v M ok =
      let a : Addition = addition 0 v T.members in
      let B = M.bounds in
      let passes = (subscription_passed f t v ok).roll in
      let from = passes.rate_from in
      let to = passes.rate_to in
      let same : members_of (subscribed_roll f t v) ≡ entered_members a T.members =
      members_entered (addition 0 v (counted_members f t)) (counted_roll f t) ∙ ap (λ xs. entered_members (addition 0 v xs) xs) M.members in
      let counted : length (subscribed_roll f t v) ≡ length (entered_members a T.members) = sym (length-map (subscribed_roll f t v) member_of) ∙ ap length same in
      let grow = rates_grow a (omega arith) T.members B.shaped in
      let bal = entered_balances a T.members in
      let most = present_most v.operator T.members B.rated in
      let con = B.contributed in let lin = B.lines in let wit = B.within in let cre = B.credited in
      record {
        members = ap members_of (take_front (subscribed_roll f t v) (drop (length (subscribed_roll f t v)) t.roll)) ∙ same;
        objects = M.objects;
        operators_counted = counted;
        objects_counted = M.objects_counted;
        totals = M.totals;
        phase = (refl, refl);
        in_time = tt;
        bounds = record {
          few = short_enough f t v a refl T.members (ap length (sym M.members)) (ap (λ xs. is_none (member v.operator xs)) (sym M.members))
              (let l = ap length M.members in let few = B.few in omega arith) passes;
          few_objects = B.few_objects;
          shaped = entered_shaped a T.members B.shaped;
          rated = rated_stays a (omega arith) T.members B.shaped B.rated (omega arith);
          credited = omega arith;
          contributed = omega arith;
          lines = omega arith;
          within = omega arith;
        };
      }

  step_subscription : (c : Call) (v : Event) → noted m c T ≡ event_noted v T.launch_date T → Mirror T (record { figures = f; phase = preparing; tables = t }) →
      Stays m T (record { figures = f; phase = preparing; tables = t }) c (subscription f t v)
  step_subscription c v same M =
      settles (subscription_checks f t v) (subscription_effect f t v) (Stays m T (record { figures = f; phase = preparing; tables = t }) c) (λ r. M)
      (λ ok. subst (λ (U : Tally). Mirror U (subscription_effect f t v).state) (sym (same ∙ ap (λ d. event_noted v d T) M.phase.0)) (subscription_mirrors v M ok))

  step_launch : (date : ℕ) → Mirror T (record { figures = f; phase = preparing; tables = t }) →
      Stays m T (record { figures = f; phase = preparing; tables = t }) (launch date) (launching f t date)
  step_launch date M =
      settles (launching_checks f t date) (launching_effect f t date) (Stays m T (record { figures = f; phase = preparing; tables = t }) (launch date)) (λ r. M)
      (λ ok.
      let B = M.bounds in
      record {
        members = M.members;
        objects = M.objects;
        operators_counted = M.operators_counted;
        objects_counted = M.objects_counted;
        totals = M.totals;
        phase = (refl, refl);
        in_time = tt;
        bounds = record { few = B.few; few_objects = B.few_objects; shaped = B.shaped; rated = B.rated; credited = B.credited; contributed = B.contributed; lines = B.lines; within = B.within };
      })

  step_installation : (day : ℕ) (c : Call) (o : RegisterEntry) → noted m c T ≡ object_noted o T → Mirror T (record { figures = f; phase = launched day; tables = t }) →
      Stays m T (record { figures = f; phase = launched day; tables = t }) c (installation m f day t places o)
  step_installation day c o same M =
      settles (installation_checks m f day t places o) (installation_effect m f day t o) (Stays m T (record { figures = f; phase = launched day; tables = t }) c) (λ r. M)
      (λ ok.
      let B = M.bounds in
      let free = (installation_passed m f day t places o ok).register.few in
      let n = length-append T.objects (o ∷ []) in
      let k = M.objects_counted in
      subst (λ (U : Tally). Mirror U (installation_effect m f day t o).state) (sym same) (record {
        members = M.members;
        objects = take_front (installed_register f t o) (drop (length (installed_register f t o)) t.register) ∙ ap (λ os. os ++ o ∷ []) M.objects;
        operators_counted = M.operators_counted;
        objects_counted = ap (λ os. length (os ++ o ∷ [])) M.objects;
        totals = M.totals;
        phase = M.phase;
        in_time = tt;
        bounds = record { few = B.few; few_objects = omega arith; shaped = B.shaped; rated = B.rated; credited = B.credited; contributed = B.contributed; lines = B.lines; within = B.within };
      }))

  step_billing : (day : ℕ) (c : Call) (v : Event) → noted m c T ≡ event_noted v T.launch_date T → Mirror T (record { figures = f; phase = launched day; tables = t }) →
      Stays m T (record { figures = f; phase = launched day; tables = t }) c (billing m f day t places v)
  step_billing day c v same M =
      settles (billing_checks m f day t places v) (billing_effect m f day t v) (Stays m T (record { figures = f; phase = launched day; tables = t }) c) (λ r. M)
      (λ ok.
      let B = M.bounds in
      subst (λ (U : Tally). Mirror U (billing_effect m f day t v).state) (sym (same ∙ ap (λ d. event_noted v d T) M.phase.0)) (record {
        members = M.members;
        objects = M.objects;
        operators_counted = M.operators_counted;
        objects_counted = M.objects_counted;
        totals = M.totals;
        phase = (refl, refl);
        in_time = (billing_passed m f day t places v ok).date.in_time;
        bounds = record { few = B.few; few_objects = B.few_objects; shaped = B.shaped; rated = B.rated; credited = B.credited; contributed = B.contributed; lines = B.lines; within = B.within };
      }))

  -- a share-out
  module _ (day : ℕ) (v : Event) (M : Mirror T (record { figures = f; phase = levied day v; tables = t })) (ok : SettlingPassed m f day t places v) where
    abbrev now_added : Addition
    now_added = addition (index_of day v.date) v T.members

    abbrev whole : ℕ
    whole = whole_weight m now_added.index T.members

    abbrev roll_from : List Member → List RegisterEntry → List Member
    roll_from xs os = entered_members (addition (index_of day v.date) v xs) (credited_members m (addition (index_of day v.date) v xs) os xs)

    same_members : members_of (settled_roll m f day t v) ≡ roll_from T.members T.objects
    same_members =
        settled_members m f day t v ∙
        ap (λ xs. roll_from xs (counted_register f t)) M.members ∙ ap (roll_from T.members) M.objects

    abbrev lines_from : List Member → List RegisterEntry → List Line
    lines_from xs os = credits m (addition (index_of day v.date) v xs) os xs

    same_lines : settling_lines m f day t v ≡ lines_from T.members T.objects
    same_lines = ap (λ xs. lines_from xs (counted_register f t)) M.members ∙ ap (lines_from T.members) M.objects

    abbrev sum_from : List Member → List RegisterEntry → ℕ
    sum_from xs os = total (object_contribution m (addition (index_of day v.date) v xs)) os

    same_sum : sum_from (counted_members f t) (counted_register f t) ≡ sum_from T.members T.objects
    same_sum = ap (λ xs. sum_from xs (counted_register f t)) M.members ∙ ap (sum_from T.members) M.objects

    abbrev unshared_from : List Member → List RegisterEntry → ℕ
    unshared_from xs os = left_unshared m (addition (index_of day v.date) v xs) os xs

    same_unshared : unshared_from (counted_members f t) (counted_register f t) ≡ unshared_from T.members T.objects
    same_unshared = ap (λ xs. unshared_from xs (counted_register f t)) M.members ∙ ap (unshared_from T.members) M.objects

    same_totals : settled_totals m f day t v ≡ shared_totals m now_added T.objects T.members T.totals
    same_totals =
        let before = M.totals in
        let b1 = ap (λ (x : Totals). x.contributed) before in
        let b2 = ap (λ (x : Totals). x.credited) before in
        let b3 = ap (λ (x : Totals). x.unshared) before in
        let b4 = ap (λ (x : Totals). x.credit_lines) before in
        let l2 = ap (total (λ l. l.total)) same_lines in
        let l4 = ap length same_lines in
        let c2 = credits_total m now_added T.objects T.members in
        let c4 = credits_count m now_added T.objects T.members in
        let s1 = same_sum in let s3 = same_unshared in
        totals_same (settled_totals m f day t v) (shared_totals m now_added T.objects T.members T.totals) (omega arith) (omega arith) (omega arith) (omega arith)

    settled_bounds : Bounds (settled m now_added T)
    settled_bounds =
        let B = M.bounds in
        let from = ok.roll.rate_from in
        let to = ok.roll.rate_to in
        let some : 0 < now_added.tranches = subst (λ (xs : List Member). 0 < v.rate - present_rate v.operator xs) M.members (some_added f t v ok.roll) in
        let few : now_added.tranches ≤ 20 = omega arith in
        let sized : AllByRecursion Sized T.objects = subst (AllByRecursion Sized) M.objects (objects_sized f t ok.tables) in
        let grow = rates_grow now_added M.in_time (credited_members m now_added T.objects T.members) (paid_shaped (λ ts. payout m now_added whole T.objects ts) T.members B.shaped) in
        let keep = paid_rates (λ ts. payout m now_added whole T.objects ts) T.members in
        let bal = balances_grow m law now_added few T.objects sized T.members in
        let most = present_most v.operator T.members B.rated in
        let now_paid = ap rate_of (paid_tranches (λ ts. payout m now_added whole T.objects ts) v.operator T.members) in
        let con = B.contributed in let lin = B.lines in let cre = B.credited in
        let add = contributed_most m law now_added few T.objects sized B.few_objects in
        let due = dues_most m law now_added few T.objects sized T.members B.few B.few_objects in
        record {
          few = short_enough f t v now_added refl (credited_members m now_added T.objects T.members)
              (length-map T.members _ ∙ ap length (sym M.members))
              (paid_there (λ ts. payout m now_added whole T.objects ts) v.operator T.members ∙ ap (λ xs. is_none (member v.operator xs)) (sym M.members))
              (let l = ap length M.members in let q = B.few in omega arith) ok.roll;
          few_objects = B.few_objects;
          shaped = entered_shaped now_added _ (paid_shaped (λ ts. payout m now_added whole T.objects ts) T.members B.shaped);
          rated = rated_stays now_added M.in_time (credited_members m now_added T.objects T.members) (paid_shaped (λ ts. payout m now_added whole T.objects ts) T.members B.shaped) (paid_rated (λ ts. payout m now_added whole T.objects ts) T.members B.rated) (omega arith);
          credited = omega arith;
          contributed = omega arith;
          lines = omega arith;
          within = held_within m law now_added few T.objects sized T.members B.shaped B.rated B.few T.totals.credit_lines T.totals.contributed T.totals.unshared B.within;
        }

    settling_mirrors : Mirror (settled m now_added T) (settling_effect m f day t v).state
    settling_mirrors = record {
      members = ap members_of (take_front (settled_roll m f day t v) (drop (length (settled_roll m f day t v)) t.roll)) ∙ same_members;
      objects = M.objects;
      operators_counted = sym (length-map (settled_roll m f day t v) member_of) ∙ ap length same_members;
      objects_counted = M.objects_counted;
      totals = same_totals;
      phase = (M.phase.0, refl);
      in_time = tt;
      bounds = settled_bounds;
    }

  step_settling : (day : ℕ) (v : Event) → Mirror T (record { figures = f; phase = levied day v; tables = t }) →
      Stays m T (record { figures = f; phase = levied day v; tables = t }) share_out (settling m f day t places v)
  step_settling day v M =
      settles (settling_checks m f day t places v) (settling_effect m f day t v) (Stays m T (record { figures = f; phase = levied day v; tables = t }) share_out) (λ r. M)
      (λ ok. subst (λ (U : Tally). Mirror U (settling_effect m f day t v).state)
      (sym (ap (λ d. share_out_noted m d T.event T) M.phase.0 ∙ ap (λ e. share_out_noted m (Some day) e T) M.phase.1))
      (settling_mirrors day v M (settling_passed m f day t places v ok)))

  step_event : (c : Call) (v : Event) → noted m c T ≡ event_noted v T.launch_date T → (p : Phase) (answer : Answer) → answer_to_event m f t places v p ≡ Some answer →
      Mirror T (record { figures = f; phase = p; tables = t }) → Stays m T (record { figures = f; phase = p; tables = t }) c answer
  step_event c v same preparing answer e M = subst (Stays m T (record { figures = f; phase = preparing; tables = t }) c) (given_is _ _ e) (step_subscription c v same M)
  step_event c v same (launched day) answer e M = subst (Stays m T (record { figures = f; phase = launched day; tables = t }) c) (given_is _ _ e) (step_billing day c v same M)
  step_event c v same (levied day w) answer e M = none_given answer _ e

  step_object : (c : Call) (o : RegisterEntry) → noted m c T ≡ object_noted o T → (p : Phase) (answer : Answer) → answer_to_object m f t places o p ≡ Some answer →
      Mirror T (record { figures = f; phase = p; tables = t }) → Stays m T (record { figures = f; phase = p; tables = t }) c answer
  step_object c o same preparing answer e M = none_given answer _ e
  step_object c o same (launched day) answer e M = subst (Stays m T (record { figures = f; phase = launched day; tables = t }) c) (given_is _ _ e) (step_installation day c o same M)
  step_object c o same (levied day w) answer e M = none_given answer _ e

  step : (c : Call) (p : Phase) (answer : Answer) → answer_to m (record { figures = f; phase = p; tables = t }) places c ≡ Some answer →
      Mirror T (record { figures = f; phase = p; tables = t }) → Stays m T (record { figures = f; phase = p; tables = t }) c answer
  step (commitment date operator rate) p answer e M = step_event (commitment date operator rate) (commitment_event date operator rate) refl p answer e M
  step (raise date operator rate) p answer e M = step_event (raise date operator rate) (raise_event date operator rate) refl p answer e M
  step (launch date) preparing answer e M = subst (Stays m T (record { figures = f; phase = preparing; tables = t }) (launch date)) (given_is _ _ e) (step_launch date M)
  step (launch date) (launched day) answer e M = none_given answer _ e
  step (launch date) (levied day v) answer e M = none_given answer _ e
  step (opening date object dwellings) p answer e M = step_object (opening date object dwellings) (opened date object dwellings) refl p answer e M
  step (cabling date object third dwellings) p answer e M = step_object (cabling date object third dwellings) (cabled date object third dwellings) refl p answer e M
  step share_out preparing answer e M = none_given answer _ e
  step share_out (launched day) answer e M = none_given answer _ e
  step share_out (levied day v) answer e M = subst (Stays m T (record { figures = f; phase = levied day v; tables = t }) share_out) (given_is _ _ e) (step_settling day v M)

pub mirrors : (m : Meaning) → Lawful m → {calls : List Made} {s : State} → Life m calls s → Mirror (tallied m calls) s
mirrors m law (begins t) = record {
  members = refl;
  objects = refl;
  operators_counted = refl;
  objects_counted = refl;
  totals = refl;
  phase = (refl, refl);
  in_time = tt;
  bounds = record { few = omega arith; few_objects = omega arith; shaped = tt; rated = tt; credited = refl; contributed = omega arith; lines = omega arith; within = omega arith };
}
mirrors m law (goes_on {calls = calls} {s = s} {answer = answer} places call life e) =
    step m law (tallied m calls) s.figures s.tables places call s.phase answer e (mirrors m law life)
