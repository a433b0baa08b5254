-- The raises of a cut: each is followed by a share-out that enters its tranches, so they add up to the whole raise.
use Rattle.std.proofs.Common.{◌≡◌, ℕ, ◌+◌, ◌-◌, ◌<◌, ◌≤◌, false, T, List, [], ◌∷◌, length, Some, Ok, sym, refl, ap, ◌∙◌, subst, arith, map, is_none}
use Rattle.std.proofs.lemmas.List.{length-map}
use Rattle.std.specs.List.{AllByRecursion}
use Rattle.calendar.specs.Days.{is_date, index_of}
use Rattle.tariff.specs.Meaning.{Meaning}
use Rattle.book.specs.Lists.{total}
use Rattle.book.specs.Lines.{unit_shown}
use Rattle.book.specs.Members.{Member, rate_of, member, present_rate, Addition, whole_weight}
use Rattle.book.specs.Billing.{bill}
use Rattle.book.specs.Sharing.{payout}
use Rattle.book.specs.Zone.{Tables, counted_register, counted_members, Phase, preparing, launched, levied, State, Effect}
use Rattle.book.specs.Calls.{commitment, raise, launch, opening, cabling, share_out, raise_event}
use Rattle.book.specs.Answers.{added, billing_checks, billing_effect, billing, settling_checks, settling_effect, settling}
use Rattle.book.specs.Tally.{credited_members}
use Rattle.book.specs.Life.{answer_to_event, answer_to_share_out}
use Rattle.book.specs.Cuts.{Cut, ends, raised, passed, stayed}
use Rattle.book.specs.Laws.{EveryCutFair}
use Rattle.book.specs.declared.entries.RegisterEntry.{RegisterEntry}
use Rattle.book.specs.declared.lines.Line.{Line}
use Rattle.book.specs.declared.lines.Nature.TheVariants.{Charge, Contribution}
use Rattle.book.specs.declared.figures.Figures.{Figures}
use Rattle.book.specs.declared.event.Event.{Event}
use Rattle.book.proofs.Totals.{total_map}
use Rattle.book.proofs.Passing.{accepted_is, real_of}
use Rattle.book.proofs.Passed.{raise_passed, billing_passed, settling_passed}
use Rattle.book.proofs.Entering.{Shaped, entered_shaped, paid_shaped, paid_tranches, paid_there}
use Rattle.book.proofs.Amounts.{Sized}
use Rattle.book.proofs.Growing.{present_grows}
use Rattle.book.proofs.Settling.{settled_counted}
use Rattle.book.proofs.Mirroring.{mirrors, objects_sized, given_is, none_given}
use Rattle.book.proofs.Cutting.{charges_apart, contributions_apart}

module _ (m : Meaning) (date op : ℕ) where
  -- an accepted raise in a launched zone
  pub record Raised (f : Figures) (day : ℕ) (t : Tables) (to : ℕ) (effect : Effect) : Type 0 where
    pub above : present_rate op (counted_members f t) < to
    pub most : to ≤ 20
    pub index : index_of day date ≤ 40
    pub today : T (is_date date)
    pub sized : AllByRecursion Sized (counted_register f t)
    pub is : billing_effect m f day t (raise_event date op to) ≡ effect

  raised_is : (f : Figures) (day : ℕ) (t : Tables) (places to : ℕ) (effect : Effect) →
      billing m f day t places (raise_event date op to) ≡ Ok effect → Raised f day t to effect
  raised_is f day t places to effect e =
      let v = raise_event date op to in
      let (clear, is) = accepted_is (billing_checks m f day t places v) (billing_effect m f day t v) effect e in
      let passed = billing_passed m f day t places v clear in
      record {
        above = (raise_passed f t v passed.roll.change).above;
        most = passed.roll.rate_to;
        index = passed.date.in_time;
        today = real_of date passed.date.real;
        sized = objects_sized f t passed.tables;
        is = is;
      }

  -- an accepted share-out of such a raise
  pub record Settled (f : Figures) (day : ℕ) (t : Tables) (to : ℕ) (effect : Effect) : Type 0 where
    pub phase : effect.state.phase ≡ launched day
    pub register : counted_register effect.state.figures effect.state.tables ≡ counted_register f t
    pub rate : present_rate op (counted_members effect.state.figures effect.state.tables) ≡ to
    pub shaped : AllByRecursion Shaped (counted_members effect.state.figures effect.state.tables)

  settled_is : (f : Figures) (day : ℕ) (t : Tables) (places to : ℕ) (effect : Effect) →
      settling m f day t places (raise_event date op to) ≡ Ok effect → index_of day date ≤ 40 → AllByRecursion Shaped (counted_members f t) → Settled f day t to effect
  settled_is f day t places to effect e few shaped =
      let v = raise_event date op to in
      let (clear, is) = accepted_is (settling_checks m f day t places v) (settling_effect m f day t v) effect e in
      let passed = settling_passed m f day t places v clear in
      let raised = raise_passed f t v passed.roll.change in
      let xs : List Member = counted_members f t in
      let add : Addition = added f day t (raise_event date op to) in
      let pays : List ℕ → ℕ = λ ts. payout m (added f day t (raise_event date op to)) (whole_weight m (index_of day date) (counted_members f t)) (counted_register f t) ts in
      let roll = settled_counted m f day t (raise_event date op to) in
      let above = raised.above in
      let there : is_none (member op (credited_members m add (counted_register f t) xs)) ≡ false = paid_there pays op xs ∙ raised.there in
      let p = present_grows (added f day t (raise_event date op to)) few (credited_members m (added f day t (raise_event date op to)) (counted_register f t) (counted_members f t)) (paid_shaped pays xs shaped) there in
      let q = ap rate_of (paid_tranches pays op xs) in
      let r = ap (present_rate op) roll in
      subst (Settled f day t to) is (record {
        phase = refl;
        register = refl;
        rate = omega arith;
        shaped = subst (AllByRecursion Shaped) (sym roll) (entered_shaped add _ (paid_shaped pays xs shaped));
      })

cons_same : {A : Type 0} (x y : A) (xs ys : List A) → x ≡ y → xs ≡ ys → x ∷ xs ≡ y ∷ ys
cons_same x y xs ys p q = cc

-- what a phase answers to a call that is accepted
event_accepted : (m : Meaning) (f : Figures) (t : Tables) (places : ℕ) (v : Event) (effect : Effect) (p q : Phase) → p ≡ q →
    answer_to_event m f t places v p ≡ Some (Ok effect) → answer_to_event m f t places v q ≡ Some (Ok effect)
event_accepted m f t places v effect p q e h = subst (λ (x : Phase). answer_to_event m f t places v x ≡ Some (Ok effect)) e h

share_accepted : (m : Meaning) (f : Figures) (t : Tables) (places : ℕ) (effect : Effect) (p q : Phase) → p ≡ q →
    answer_to_share_out m f t places p ≡ Some (Ok effect) → answer_to_share_out m f t places q ≡ Some (Ok effect)
share_accepted m f t places effect p q e h = subst (λ (x : Phase). answer_to_share_out m f t places x ≡ Some (Ok effect)) e h

module _ (m : Meaning) (date op R day : ℕ) (reg : List RegisterEntry) where
  abbrev raise_to : ℕ → Event
  raise_to r = raise_event date op r

  -- what holds of each state along a cut
  pub record Along (d : ℕ) (f : Figures) (t : Tables) : Type 0 where
    pub same_day : d ≡ day
    pub same_register : counted_register f t ≡ reg
    pub shaped : AllByRecursion Shaped (counted_members f t)

  pub record AlongLevy (d : ℕ) (v : Event) (f : Figures) (t : Tables) : Type 0 where
    pub along : Along d f t
    pub in_time : index_of d date ≤ 40
    pub to : ℕ
    pub raises : v ≡ raise_to to

  abbrev Good : Phase → Figures → Tables → Type 0
  Good preparing f t = ⊥
  Good (launched d) f t = Along d f t
  Good (levied d v) f t = AlongLevy d v f t

  -- the rate from which the rest of a cut goes on
  abbrev base : Phase → Figures → Tables → ℕ
  base preparing f t = 0
  base (launched d) f t = present_rate op (counted_members f t)
  base (levied d v) f t = v.rate

  abbrev lines_for : ℕ → List Line
  lines_for k = bill m (record { operator = op; date = date; index = index_of day date; tranches = k }) reg

  pub record Parts (from : ℕ) (parts : List (List Line)) : Type 0 where
    pub ks : List ℕ
    pub lines : parts ≡ map lines_for ks
    pub adds : total (λ k. k) ks + from ≡ R

  abbrev lines_at : ℕ → ℕ → List RegisterEntry → List Line
  lines_at k d os = bill m (record { operator = op; date = date; index = index_of d date; tranches = k }) os

  -- the lines of one raise
  raise_lines : (f : Figures) (d : ℕ) (t : Tables) (to : ℕ) (effect : Effect) → Raised m date op f d t to effect → d ≡ day → counted_register f t ≡ reg →
      effect.lines ≡ lines_for (to - present_rate op (counted_members f t))
  raise_lines f d t to effect r e g =
      ap (λ (x : Effect). x.lines) (sym r.is) ∙ ap (λ n. lines_at (to - present_rate op (counted_members f t)) n (counted_register f t)) e ∙
      ap (lines_at (to - present_rate op (counted_members f t)) day) g

  chain : {s : State} {parts : List (List Line)} → Cut m date op R s parts → (p : Phase) → s.phase ≡ p → Good p s.figures s.tables → Parts (base p s.figures s.tables) parts
  chain (ends acc) preparing e g = absurd g
  chain (ends {s = s} {effect = effect} acc) (launched d) e g =
      let a = given_is _ _ (event_accepted m s.figures s.tables acc.places (raise_to R) effect s.phase (launched d) e acc.answer) in
      let r = raised_is m date op s.figures d s.tables acc.places R effect a in
      let b = r.above in
      record {
        ks = (R - present_rate op (counted_members s.figures s.tables)) ∷ [];
        lines = ap (λ x. x ∷ []) (raise_lines s.figures d s.tables R effect r g.same_day g.same_register);
        adds = omega arith;
      }
  chain (ends {s = s} {effect = effect} acc) (levied d v) e g =
      none_given _ _ (event_accepted m s.figures s.tables acc.places (raise_to R) effect s.phase (levied d v) e acc.answer)
  chain (raised to acc cut) preparing e g = absurd g
  chain (raised {s = s} {effect = effect} to acc cut) (launched d) e g =
      let a = given_is _ _ (event_accepted m s.figures s.tables acc.places (raise_to to) effect s.phase (launched d) e acc.answer) in
      let r = raised_is m date op s.figures d s.tables acc.places to effect a in
      let b = r.above in
      let rest = chain cut (levied d (raise_to to)) (ap (λ (x : Effect). x.state.phase) (sym r.is))
      (subst (λ (x : Effect). Good (levied d (raise_to to)) x.state.figures x.state.tables) r.is (record { along = record { same_day = g.same_day; same_register = g.same_register; shaped = g.shaped }; in_time = r.index; to = to; raises = refl })) in
      let c = rest.adds in
      record {
        ks = (to - present_rate op (counted_members s.figures s.tables)) ∷ rest.ks;
        lines = cons_same _ _ _ _ (raise_lines s.figures d s.tables to effect r g.same_day g.same_register) rest.lines;
        adds = omega arith;
      }
  chain (raised {s = s} {effect = effect} to acc cut) (levied d v) e g =
      none_given _ _ (event_accepted m s.figures s.tables acc.places (raise_to to) effect s.phase (levied d v) e acc.answer)
  chain (passed (commitment d o k) no' acc cut) p e g = absurd no'
  chain (passed (raise d o k) no' acc cut) p e g = absurd no'
  chain (passed (launch d) no' acc cut) p e g = absurd no'
  chain (passed (opening d o k) no' acc cut) p e g = absurd no'
  chain (passed (cabling d o b k) no' acc cut) p e g = absurd no'
  chain (passed share_out may acc cut) preparing e g = absurd g
  chain (passed {s = s} {effect = effect} share_out may acc cut) (launched d) e g =
      none_given _ _ (share_accepted m s.figures s.tables acc.places effect s.phase (launched d) e acc.answer)
  chain (passed {s = s} {effect = effect} share_out may acc cut) (levied d v) e g =
      let r = g.to in
      let same : levied d v ≡ levied d (raise_to r) = ap (levied d) g.raises in
      let a = given_is _ _ (share_accepted m s.figures s.tables acc.places effect s.phase (levied d (raise_to r)) (e ∙ same) acc.answer) in
      let z = settled_is m date op s.figures d s.tables acc.places r effect a g.in_time g.along.shaped in
      let rest = chain cut (launched d) z.phase (record { same_day = g.along.same_day; same_register = z.register ∙ g.along.same_register; shaped = z.shaped }) in
      let c = rest.adds in let q = z.rate in let u : v.rate ≡ r = ap (λ (x : Event). x.rate) g.raises in
      record { ks = rest.ks; lines = rest.lines; adds = omega arith }
  chain (stayed call no' cut) p e g = chain cut p e g

pub every_cut_fair : EveryCutFair (λ parts. parts)
every_cut_fair m law calls s life day phase date op rate effect acc parts cut ob =
    let M = mirrors m law life in
    let reg = counted_register s.figures s.tables in
    let shaped : AllByRecursion Shaped (counted_members s.figures s.tables) = subst (AllByRecursion Shaped) (sym M.members) M.bounds.shaped in
    let a = given_is _ _ (event_accepted m s.figures s.tables acc.places (raise_event date op rate) effect s.phase (launched day) phase acc.answer) in
    let r = raised_is m date op s.figures day s.tables acc.places rate effect a in
    let p = chain m date op rate day reg cut (launched day) phase (record { same_day = refl; same_register = refl; shaped = shaped }) in
    let sum : rate - present_rate op (counted_members s.figures s.tables) ≡ total (λ k. k) p.ks = let c = p.adds in omega arith in
    let few : total (λ k. k) p.ks ≤ 20 = let c = p.adds in let d = r.most in omega arith in
    let one : effect.lines ≡ lines_for m date op rate day reg (total (λ k. k) p.ks) =
    raise_lines m date op rate day reg s.figures day s.tables rate effect r refl refl ∙ ap (lines_for m date op rate day reg) sum in
    let n : length parts ≡ length p.ks = ap length p.lines ∙ length-map p.ks (lines_for m date op rate day reg) in
    let c1 = charges_apart m law op date (index_of day date) ob p.ks few r.today reg r.sized in
    let c2 = contributions_apart m law op date (index_of day date) ob p.ks few r.today reg r.sized in
    let u1 = ap (unit_shown Charge op ob) one in
    let u2 = ap (unit_shown Contribution op ob) one in
    let t1 : total (unit_shown Charge op ob) parts ≡ total (λ k. unit_shown Charge op ob (lines_for m date op rate day reg k)) p.ks =
    ap (total (unit_shown Charge op ob)) p.lines ∙ total_map (unit_shown Charge op ob) (lines_for m date op rate day reg) p.ks in
    let t2 : total (unit_shown Contribution op ob) parts ≡ total (λ k. unit_shown Contribution op ob (lines_for m date op rate day reg k)) p.ks =
    ap (total (unit_shown Contribution op ob)) p.lines ∙ total_map (unit_shown Contribution op ob) (lines_for m date op rate day reg) p.ks in
    let o1 = c1.over in let o2 = c1.under in let o3 = c2.over in let o4 = c2.under in
    (record { over = omega arith; under = omega arith }, record { over = omega arith; under = omega arith })
