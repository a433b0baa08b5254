-- What an accepted share-out makes of the members, and what it keeps of the tally's bounds.
use Rattle.std.proofs.Common.{◌≡◌, ℕ, ◌+◌, ◌*◌, ◌<◌, ◌≤◌, Bool, true, false, cond, eqb, List, [], ◌∷◌, length, drop, refl, ap, ◌∙◌, mul-le-mul, arith}
use Rattle.std.specs.List.{AllByRecursion}
use Rattle.std.proofs.lemmas.Bool.{eqb-true, eqb-false}
use Rattle.tariff.specs.Meaning.{Meaning, Lawful}
use Rattle.book.specs.Limits.{most_credit_lines}
use Rattle.book.specs.Lists.{total}
use Rattle.book.specs.Members.{Member, members_of, weight_to, whole_weight, Addition, entered_members}
use Rattle.book.specs.Sharing.{object_contribution, amount_divided, serves, share_of, due_of, payout, left_unshared}
use Rattle.book.specs.Zone.{Tables, counted_roll, counted_register, counted_members}
use Rattle.book.specs.Answers.{added, credited_roll, settled_roll, settling_effect}
use Rattle.book.specs.Tally.{member_credited, credited_members}
use Rattle.book.specs.declared.entries.RegisterEntry.{RegisterEntry}
use Rattle.book.specs.declared.figures.Figures.{Figures}
use Rattle.book.specs.declared.event.Event.{Event}
use Rattle.book.proofs.Totals.{total_most, total_map, total_add, total_swap, take_front}
use Rattle.book.proofs.Entering.{members_entered, members_credited, Shaped, entered_balances}
use Rattle.book.proofs.Amounts.{Rated, Sized, amount_most}
use Rattle.book.proofs.Holding.{Within}
use Rattle.book.proofs.Sharing.{shares_all, dues_all, shares_within, none_shared_all, none_due_all}

-- the roll of a share-out, as members
pub settled_members : (m : Meaning) (f : Figures) (day : ℕ) (t : Tables) (v : Event) →
    members_of (settled_roll m f day t v) ≡ entered_members (added f day t v) (credited_members m (added f day t v) (counted_register f t) (counted_members f t))
settled_members m f day t v =
    members_entered (added f day t v) (credited_roll m (added f day t v) (counted_register f t) (counted_roll f t)) ∙
    ap (entered_members (added f day t v)) (members_credited (λ ts. payout m (added f day t v) (whole_weight m (added f day t v).index (counted_members f t)) (counted_register f t) ts) (counted_roll f t))

-- what is counted after it
pub settled_counted : (m : Meaning) (f : Figures) (day : ℕ) (t : Tables) (v : Event) →
    counted_members (settling_effect m f day t v).state.figures (settling_effect m f day t v).state.tables ≡
    entered_members (added f day t v) (credited_members m (added f day t v) (counted_register f t) (counted_members f t))
settled_counted m f day t v =
    ap members_of (take_front (settled_roll m f day t v) (drop (length (settled_roll m f day t v)) t.roll)) ∙ settled_members m f day t v

module _ (m : Meaning) (law : Lawful m) (a : Addition) (few : a.tranches ≤ 20) (os : List RegisterEntry) (sized : AllByRecursion Sized os) where
  amounts_each : (gs : List RegisterEntry) → AllByRecursion Sized gs → AllByRecursion (λ o. object_contribution m a o ≤ 5000000000000 * a.tranches) gs
  amounts_each [] h = tt
  amounts_each (o ∷ gs) h = (amount_most m law a few o h.0, amounts_each gs h.1)

  -- what a share-out adds to contributed
  pub contributed_most : length os ≤ 1024 → total (object_contribution m a) os ≤ 5120000000000000 * a.tranches
  contributed_most short =
      let t = total_most (object_contribution m a) (5000000000000 * a.tranches) os (amounts_each os sized) in
      let p : 5000000000000 * a.tranches * length os ≤ 5000000000000 * a.tranches * 1024 = mul-le-mul (omega arith) short in omega arith

  module _ (xs : List Member) where
    -- all balances grow by all shares
    pub balances_grow : total (λ x. x.balance) (entered_members a (credited_members m a os xs)) ≡ total (λ x. x.balance) xs + shares_all m a os xs
    balances_grow =
        let e = entered_balances a (credited_members m a os xs) in
        let b = total_map (λ x. x.balance) (λ x. member_credited (payout m a (whole_weight m a.index xs) os x.tranches) x) xs in
        let c = total_add (λ x. x.balance) (λ x. payout m a (whole_weight m a.index xs) os x.tranches) xs in
        let s = total_swap (λ x o. share_of m a (whole_weight m a.index xs) o x.tranches) xs os in
        omega arith

    pub held_within : AllByRecursion Shaped xs → AllByRecursion Rated xs → length xs ≤ 16 → (lines all unshared : ℕ) →
        Within lines all (total (λ x. x.balance) xs + unshared) →
        Within (lines + dues_all m a os xs) (all + total (object_contribution m a) os)
        (total (λ x. x.balance) (entered_members a (credited_members m a os xs)) + (unshared + left_unshared m a os xs))
    held_within shaped rates short lines all unshared w = go (eqb (whole_weight m a.index xs) 0) refl
      where
        go : (b : Bool) → eqb (whole_weight m a.index xs) 0 ≡ b →
            Within (lines + dues_all m a os xs) (all + total (object_contribution m a) os)
            (total (λ x. x.balance) (entered_members a (credited_members m a os xs)) + (unshared + cond b (total (object_contribution m a) os) 0))
        go true q =
            let z = eqb-true (whole_weight m a.index xs) 0 q in
            let s = none_shared_all m a xs z os in
            let u = none_due_all m a xs z os in
            let b = balances_grow in omega arith
        go false q =
            let z = eqb-false (whole_weight m a.index xs) 0 q in
            let pos : 0 < whole_weight m a.index xs = omega arith in
            let h = shares_within m a law few xs shaped rates short pos os sized in
            let b = balances_grow in omega arith

    one_due : (o : RegisterEntry) (x : Member) → due_of m a o x.tranches ≤ 1
    one_due o x = go (serves (amount_divided m a o) (weight_to m a.index x.tranches))
      where
        go : (b : Bool) → cond b 1 0 ≤ 1
        go true = omega arith
        go false = omega arith

    dues_each : (o : RegisterEntry) (ys : List Member) → AllByRecursion (λ x. due_of m a o x.tranches ≤ 1) ys
    dues_each o [] = tt
    dues_each o (y ∷ ys) = (one_due o y, dues_each o ys)

    dues_of_each : length xs ≤ 16 → (gs : List RegisterEntry) → AllByRecursion (λ o. total (λ x. due_of m a o x.tranches) xs ≤ 16) gs
    dues_of_each short [] = tt
    dues_of_each short (o ∷ gs) = (let t = total_most (λ x. due_of m a o x.tranches) 1 xs (dues_each o xs) in omega arith, dues_of_each short gs)

    -- a share-out writes at most 16 lines for each of 1,024 objects
    pub dues_most : length xs ≤ 16 → length os ≤ 1024 → dues_all m a os xs ≤ most_credit_lines
    dues_most short long = let t = total_most (λ o. total (λ x. due_of m a o x.tranches) xs) 16 os (dues_of_each short os) in omega arith
