-- A roll whose counted entries were credited: what enters it, and the places after them.
use Rattle.std.proofs.Common.{◌≡◌, ℕ, suc, ◌+◌, ◌-◌, ◌≤◌, Bool, true, false, cond, eqb, List, [], ◌∷◌, ◌++◌, length, take, drop, sym, refl, ap, ◌∙◌, arith, map, ◌||◌}
use Rattle.std.specs.List.{list_any}
use Rattle.std.proofs.lemmas.List.{length-append, length-drop, length-take-le, take_at, drop_at, drop-drop, length-map}
use Rattle.tariff.specs.Meaning.{Meaning}
use Rattle.checks.specs.Tables.{one_of}
use Rattle.book.specs.Lists.{written}
use Rattle.book.specs.Members.{rate_of, Addition, subscribed, entered_roll}
use Rattle.checks.specs.Numbers.{bad_rate}
use Rattle.book.specs.Refusals.{entry_faults}
use Rattle.book.specs.Answers.{with_credit, credited_roll}
use Rattle.book.specs.declared.entries.RollEntry.{RollEntry}
use Rattle.book.specs.declared.entries.RegisterEntry.{RegisterEntry}
use Rattle.book.proofs.Admitting.{rates_sound}

module _ (f : RollEntry → ℕ) where
  -- a credit leaves the tranches, and so the rates
  rates_blind : (roll : List RollEntry) → list_any (λ e. bad_rate (rate_of e.tranches)) (map (λ e. with_credit (f e) e) roll) ≡ list_any (λ e. bad_rate (rate_of e.tranches)) roll
  rates_blind [] = refl
  rates_blind (e ∷ es) = ap (λ b. bad_rate (rate_of e.tranches) || b) (rates_blind es)

  -- and as many entries are entered
  pub entered_blind : (a : Addition) (roll : List RollEntry) → length (entered_roll a (map (λ e. with_credit (f e) e) roll)) ≡ length (entered_roll a roll)
  entered_blind a [] = refl
  entered_blind a (e ∷ es) = go (eqb e.operator a.operator) (entered_blind a es)
    where
      go : (b : Bool) → length (entered_roll a (map (λ e. with_credit (f e) e) es)) ≡ length (entered_roll a es) →
          length (cond b (subscribed a (with_credit (f e) e) ∷ map (λ e. with_credit (f e) e) es) (with_credit (f e) e ∷ entered_roll a (map (λ e. with_credit (f e) e) es))) ≡
          length (cond b (subscribed a e ∷ es) (e ∷ entered_roll a es))
      go true r = ap suc (length-map es (λ e. with_credit (f e) e))
      go false r = ap suc r

none_lost : (a : Addition) (roll : List RollEntry) → length roll ≤ length (entered_roll a roll)
none_lost a [] = omega arith
none_lost a (e ∷ es) = go (eqb e.operator a.operator) (none_lost a es)
  where
    go : (b : Bool) → length es ≤ length (entered_roll a es) → suc (length es) ≤ length (cond b (subscribed a e ∷ es) (e ∷ entered_roll a es))
    go true r = omega arith
    go false r = omega arith

module _ (m : Meaning) (a : Addition) (os : List RegisterEntry) (roll : List RollEntry) (n : ℕ) (fits : n ≤ length roll) (xs : List RollEntry) (is : xs ≡ credited_roll m a os (take n roll)) where
  credited_length : length xs ≡ n
  credited_length = ap length is ∙ length-map (take n roll) _ ∙ length-take-le n roll fits

  pub credited_front : take n (xs ++ drop n roll) ≡ xs
  credited_front = take_at xs (drop n roll) n credited_length

  pub credited_long : length (xs ++ drop n roll) ≡ length roll
  credited_long = omega (arith, credited_length, length-append xs (drop n roll), length-drop n roll)

  pub credited_rates : list_any (λ e. one_of (entry_faults e)) (take n roll) ≡ false → list_any (λ e. bad_rate (rate_of e.tranches)) (take n (xs ++ drop n roll)) ≡ false
  credited_rates h = ap (list_any (λ e. bad_rate (rate_of e.tranches))) (credited_front ∙ is) ∙ rates_blind _ (take n roll) ∙ rates_sound (take n roll) h

  pub credited_room : length (entered_roll a (take n roll)) ≤ length roll → length (entered_roll a (take n (xs ++ drop n roll))) ≤ length (xs ++ drop n roll)
  credited_room h =
      let e : length (entered_roll a (take n (xs ++ drop n roll))) ≡ length (entered_roll a (take n roll)) =
      ap (λ es. length (entered_roll a es)) (credited_front ∙ is) ∙ entered_blind _ a (take n roll) in
      omega (arith, credited_long)

  -- what is written over the credited entries is written over the roll
  pub credited_written : (last : List RollEntry) → last ≡ written (entered_roll a (take n (xs ++ drop n roll))) (xs ++ drop n roll) → last ≡ written (entered_roll a (credited_roll m a os (take n roll))) roll
  credited_written last e =
      let es = entered_roll a xs in
      let j = length es - n in
      let k : length es ≡ n + j = omega (arith, none_lost a xs, credited_length) in
      let later : drop (length es) (xs ++ drop n roll) ≡ drop (length es) roll =
      ap (λ i. drop i (xs ++ drop n roll)) k ∙ sym (drop-drop j n (xs ++ drop n roll)) ∙ ap (drop j) (drop_at xs (drop n roll) n credited_length) ∙
      drop-drop j n roll ∙ ap (λ i. drop i roll) (sym k) in
      e ∙ ap (λ ys. written (entered_roll a ys) (xs ++ drop n roll)) credited_front ∙ ap (λ ys. es ++ ys) later ∙ ap (λ ys. written (entered_roll a ys) roll) is
