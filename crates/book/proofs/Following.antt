-- What an accepted commitment or raise leaves for its share-out.
use Rattle.std.proofs.Common.{◌≡◌, ℕ, zero, suc, ◌+◌, ◌≤◌, Bool, true, false, cond, ◌&&◌, eqb, ltb, List, [], ◌∷◌, length, get_or, replicate, Some, None, Ok, sym, refl, ap, ◌∙◌, subst, arith, get_or-set_other, get_or-set_same}
use Rattle.std.specs.List.{AllByRecursion}
use Rattle.std.proofs.lemmas.Bool.{eqb-true, eqb-false, ne_eqb, eq-eqb, lt-ltb, le-ltb}
use Rattle.refusal.specs.Checks.{unless, then_do, in_turn}
use Rattle.refusal.specs.declared.Refusal.TheVariants.{StripTooShort}
use Rattle.tariff.specs.Meaning.{Meaning}
use Rattle.book.specs.Members.{Member, member, tranches_found, Addition, more_tranches, member_subscribed, new_member, entered_members, whole_weight}
use Rattle.book.specs.Sharing.{payout}
use Rattle.book.specs.Zone.{Tables, counted_register, counted_members, Effect, dated}
use Rattle.book.specs.Refusals.{table_checks, change_checks, roll_checks, price_checks, strip_checks}
use Rattle.book.specs.Answers.{added, billing_checks, billing_effect, settling_lines, settling_checks, settling_effect, settling}
use Rattle.book.specs.Tally.{credited_members}
use Rattle.book.specs.Grounds.{SharedOutOr, ShareOutFollows, tranches_in, BilledIsEntered}
use Rattle.book.specs.declared.figures.Figures.{Figures}
use Rattle.book.specs.declared.event.Change.{Change}
use Rattle.book.specs.declared.event.Change.TheVariants.{Commitment, Raise}
use Rattle.book.specs.declared.event.Event.{Event}
use Rattle.book.proofs.Passing.{Clear, AllClear, past, accepted_is}
use Rattle.book.proofs.Passed.{billing_passed}
use Rattle.book.proofs.Entering.{Shaped, paid_shaped, paid_tranches}
use Rattle.book.proofs.Settling.{settled_counted}
use Rattle.book.proofs.Mirroring.{mirrors, some_added}

-- another last date meets no other condition of the roll
still_clear : (d : ℕ) (f : Figures) (t : Tables) (v : Event) (change : Change) → Clear (change_checks change f t v) → Clear (change_checks change (dated d f) t v)
still_clear d f t v Commitment ok = ok
still_clear d f t v Raise ok = ok

-- after a bill only the strip can turn its share-out down
only_strip : (m : Meaning) (f : Figures) (day : ℕ) (t : Tables) (places : ℕ) (v : Event) → AllClear (billing_checks m f day t places v) → (room : ℕ) (effect : Effect) →
    in_turn (settling_checks m (dated v.date f) day t room v) effect ≡ in_turn (strip_checks room (length (settling_lines m (dated v.date f) day t v)) ∷ []) effect
only_strip m f day t places v ok room effect =
    let (tables, (date, (roll, (sheet, rest)))) = ok in
    let (operator, (rate, change)) = roll in
    let (priced, coefficients) = sheet in
    let again : Clear (roll_checks (dated v.date f) t v) = (operator, (rate, still_clear v.date f t v v.change change)) in
    let strip = strip_checks room (length (settling_lines m (dated v.date f) day t v)) ∷ [] in
    past (table_checks f t) (roll_checks (dated v.date f) t v ∷ price_checks m (counted_register f t) ∷ strip) effect tables
    ∙ past (roll_checks (dated v.date f) t v) (price_checks m (counted_register f t) ∷ strip) effect again
    ∙ past (price_checks m (counted_register f t)) strip effect (priced, tt)

-- a strip that is too short, and one that is not
by_strip : {A : Type 0} (room lines : ℕ) (a : A) (b : Bool) → ltb room lines ≡ b →
    in_turn (strip_checks room lines ∷ []) a ≡ then_do (unless (cond b (Some StripTooShort) None) (tt {0})) (Ok a)
by_strip room lines a b is = ap (λ c. then_do (unless (cond c (Some StripTooShort) None) (tt {0})) (Ok a)) is

pub share_out_follows : ShareOutFollows StripTooShort
share_out_follows m f day t places v billed e room =
    let (clear, is) = accepted_is (billing_checks m f day t places v) (billing_effect m f day t v) billed e in
    let s = (billing_effect m f day t v).state in
    let effect = settling_effect m s.figures day t v in
    let o = only_strip m f day t places v clear room effect in
    subst (λ (x : Effect). SharedOutOr StripTooShort m x.state day v room) is (record {
      short = λ h. o ∙ by_strip room (length (settling_lines m s.figures day t v)) effect true (lt-ltb room _ h);
      enough = λ h. o ∙ by_strip room (length (settling_lines m s.figures day t v)) effect false (le-ltb room _ h);
    })

-- tranches of a year index after some are entered
module _ (a : Addition) (few : a.index ≤ 40) where
  in_year : (ts : List ℕ) → length ts ≡ 41 → (i : ℕ) → get_or (more_tranches a ts) i 0 ≡ get_or ts i 0 + cond (eqb a.index i) a.tranches 0
  in_year ts l i = go (eqb a.index i) refl
    where
      go : (b : Bool) → eqb a.index i ≡ b → get_or (more_tranches a ts) i 0 ≡ get_or ts i 0 + cond b a.tranches 0
      go true q =
          let e : a.index ≡ i = eqb-true a.index i q in
          subst (λ (j : ℕ). get_or (more_tranches a ts) j 0 ≡ get_or ts j 0 + a.tranches) e
          (get_or-set_same ts a.index (get_or ts a.index 0 + a.tranches) 0 (omega arith))
      go false q =
          let d = eqb-false a.index i q in
          let s = get_or-set_other ts a.index i (get_or ts a.index 0 + a.tranches) 0 (λ e. d (sym e)) in omega arith

  none_before : (n i : ℕ) → ◌≡◌ {A = ℕ} (get_or (replicate n 0) i 0) 0
  none_before zero i = refl
  none_before (suc n) zero = refl
  none_before (suc n) (suc i) = none_before n i

  abbrev gain : ℕ → ℕ → ℕ
  gain op i = cond (eqb a.operator op && eqb a.index i) a.tranches 0

  entered_in : (op i : ℕ) (xs : List Member) → AllByRecursion Shaped xs → tranches_in (entered_members a xs) op i ≡ tranches_in xs op i + gain op i
  entered_in op i [] s = go (eqb a.operator op)
    where
      go : (b : Bool) → get_or (tranches_found (cond b (Some (new_member a)) None)) i 0 ≡ 0 + cond (b && eqb a.index i) a.tranches 0
      go true = let y = in_year (replicate 41 0) refl i in let z = none_before 41 i in omega arith
      go false = refl
  entered_in op i (x ∷ xs) s = go (eqb x.operator a.operator) (eqb x.operator op) refl refl (entered_in op i xs s.1)
    where
      go : (hit mine : Bool) → eqb x.operator a.operator ≡ hit → eqb x.operator op ≡ mine →
          tranches_in (entered_members a xs) op i ≡ tranches_in xs op i + gain op i →
          tranches_in (cond hit (member_subscribed a x ∷ xs) (x ∷ entered_members a xs)) op i ≡ get_or (tranches_found (cond mine (Some x) (member op xs))) i 0 + gain op i
      go true true p q r =
          let e : eqb a.operator op ≡ true = let u = eqb-true _ _ p in let w = eqb-true _ _ q in eq-eqb a.operator op (omega arith) in
          rw (q, e) (in_year x.tranches s.0 i)
      go true false p q r =
          let e : eqb a.operator op ≡ false = let u = eqb-true _ _ p in let w = eqb-false _ _ q in ne_eqb a.operator op (λ same. w (omega arith)) in
          rw (q, e) (omega arith)
      go false true p q r =
          let e : eqb a.operator op ≡ false = let u = eqb-false _ _ p in let w = eqb-true _ _ q in ne_eqb a.operator op (λ same. u (omega arith)) in
          rw (q, e) (omega arith)
      go false false p q r = rw q r

pub billed_is_entered : BilledIsEntered (λ k. k)
billed_is_entered m law calls s life day phase v places billed e room after e' =
    let M = mirrors m law life in
    let (clear, is) = accepted_is (billing_checks m s.figures day s.tables places v) (billing_effect m s.figures day s.tables v) billed e in
    let passed = billing_passed m s.figures day s.tables places v clear in
    let add : Addition = added s.figures day s.tables v in
    let few : add.index ≤ 40 = passed.date.in_time in
    let shaped : AllByRecursion Shaped (counted_members s.figures s.tables) = subst (AllByRecursion Shaped) (sym M.members) M.bounds.shaped in
    let h = subst (λ (x : Effect). settling m x.state.figures day x.state.tables room v ≡ Ok after) (sym is) e' in
    let (again, done) = accepted_is (settling_checks m (billing_effect m s.figures day s.tables v).state.figures day s.tables room v) (settling_effect m (billing_effect m s.figures day s.tables v).state.figures day s.tables v) after h in
    let pays : List ℕ → ℕ = λ ts. payout m add (whole_weight m add.index (counted_members s.figures s.tables)) (counted_register s.figures s.tables) ts in
    record {
      k = add.tranches;
      some = some_added s.figures s.tables v passed.roll;
      lines = ap (λ (x : Effect). x.lines) (sym is);
      entered = λ op i.
          subst (λ (x : Effect). tranches_in (counted_members x.state.figures x.state.tables) op i ≡ tranches_in (counted_members s.figures s.tables) op i + gain add few op i) done
          (ap (λ xs. tranches_in xs op i) (settled_counted m (billing_effect m s.figures day s.tables v).state.figures day s.tables v) ∙
          entered_in add few op i (credited_members m add (counted_register s.figures s.tables) (counted_members s.figures s.tables)) (paid_shaped pays (counted_members s.figures s.tables) shaped) ∙
          ap (λ ts. get_or ts i 0 + gain add few op i) (paid_tranches pays op (counted_members s.figures s.tables)));
    }
