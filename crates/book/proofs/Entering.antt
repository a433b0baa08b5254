-- What tranches that are entered, and amounts that are credited, leave of the operators.
use Rattle.std.proofs.Common.{◌≡◌, ℕ, suc, ◌+◌, ◌≤◌, Bool, true, false, cond, eqb, List, [], ◌∷◌, length, get_or, replicate, Some, refl, ap, ◌∙◌, arith, length-set, map, is_none}
use Rattle.std.specs.List.{AllByRecursion}
use Rattle.book.specs.Lists.{total}
use Rattle.book.specs.Members.{Member, member_of, members_of, member, tranches_found, tranches_of, Addition, subscribed, entered_roll, member_subscribed, entered_members}
use Rattle.book.specs.Answers.{with_credit}
use Rattle.book.specs.Tally.{member_credited}
use Rattle.book.specs.declared.entries.RollEntry.{RollEntry}

-- the roll after a call, as members
pub members_entered : (a : Addition) (roll : List RollEntry) → members_of (entered_roll a roll) ≡ entered_members a (members_of roll)
members_entered a [] = refl
members_entered a (e ∷ es) = go (eqb e.operator a.operator) (members_entered a es)
  where
    go : (b : Bool) → members_of (entered_roll a es) ≡ entered_members a (members_of es) →
        members_of (cond b (subscribed a e ∷ es) (e ∷ entered_roll a es)) ≡ cond b (member_subscribed a (member_of e) ∷ members_of es) (member_of e ∷ entered_members a (members_of es))
    go true r = refl
    go false r = ap (λ xs. member_of e ∷ xs) r

pub members_credited : (g : List ℕ → ℕ) (roll : List RollEntry) →
    members_of (map (λ e. with_credit (g e.tranches) e) roll) ≡ map (λ x. member_credited (g x.tranches) x) (members_of roll)
members_credited g [] = refl
members_credited g (e ∷ es) = ap (λ xs. member_of (with_credit (g e.tranches) e) ∷ xs) (members_credited g es)

module _ (a : Addition) where
  -- no balance changes
  pub entered_balances : (xs : List Member) → total (λ x. x.balance) (entered_members a xs) ≡ total (λ x. x.balance) xs
  entered_balances [] = omega arith
  entered_balances (x ∷ xs) = go (eqb x.operator a.operator) (entered_balances xs)
    where
      go : (b : Bool) → total (λ x. x.balance) (entered_members a xs) ≡ total (λ x. x.balance) xs →
          total (λ x. x.balance) (cond b (member_subscribed a x ∷ xs) (x ∷ entered_members a xs)) ≡ x.balance + total (λ x. x.balance) xs
      go true r = refl
      go false r = omega arith

  -- at most one member more
  pub entered_length : (xs : List Member) → length (entered_members a xs) ≤ length xs + 1
  entered_length [] = omega arith
  entered_length (x ∷ xs) = go (eqb x.operator a.operator) (entered_length xs)
    where
      go : (b : Bool) → length (entered_members a xs) ≤ length xs + 1 → length (cond b (member_subscribed a x ∷ xs) (x ∷ entered_members a xs)) ≤ suc (length xs) + 1
      go true r = omega arith
      go false r = omega arith

  -- and none where the operator is one
  pub entered_there : (xs : List Member) → is_none (member a.operator xs) ≡ false → length (entered_members a xs) ≡ length xs
  entered_there [] h = let z : ◌≡◌ {A = ℕ} 0 1 = cc in absurd (omega arith)
  entered_there (x ∷ xs) h = go (eqb x.operator a.operator) h (entered_there xs)
    where
      go : (b : Bool) → is_none (cond b (Some x) (member a.operator xs)) ≡ false → (is_none (member a.operator xs) ≡ false → length (entered_members a xs) ≡ length xs) →
          length (cond b (member_subscribed a x ∷ xs) (x ∷ entered_members a xs)) ≡ suc (length xs)
      go true h r = refl
      go false h r = ap suc (r h)

-- a year for each index
abbrev pub Shaped : Member → Type 0
Shaped x = length x.tranches ≡ 41

pub entered_shaped : (a : Addition) (xs : List Member) → AllByRecursion Shaped xs → AllByRecursion Shaped (entered_members a xs)
entered_shaped a [] h = (length-set (replicate 41 0) a.index (get_or (replicate 41 0) a.index 0 + a.tranches), tt)
entered_shaped a (x ∷ xs) h = go (eqb x.operator a.operator) (entered_shaped a xs h.1)
  where
    go : (b : Bool) → AllByRecursion Shaped (entered_members a xs) → AllByRecursion Shaped (cond b (member_subscribed a x ∷ xs) (x ∷ entered_members a xs))
    go true r = (length-set x.tranches a.index (get_or x.tranches a.index 0 + a.tranches) ∙ h.0, h.1)
    go false r = (h.0, r)

-- credits change neither who is a member nor the tranches of one
module _ (g : List ℕ → ℕ) where
  abbrev pub paid : List Member → List Member
  paid xs = map (λ x. member_credited (g x.tranches) x) xs

  pub paid_shaped : (xs : List Member) → AllByRecursion Shaped xs → AllByRecursion Shaped (paid xs)
  paid_shaped [] h = tt
  paid_shaped (x ∷ xs) h = (h.0, paid_shaped xs h.1)

  pub paid_tranches : (op : ℕ) (xs : List Member) → tranches_of op (paid xs) ≡ tranches_of op xs
  paid_tranches op [] = refl
  paid_tranches op (x ∷ xs) = go (eqb x.operator op) (paid_tranches op xs)
    where
      go : (b : Bool) → tranches_of op (paid xs) ≡ tranches_of op xs →
          tranches_found (cond b (Some (member_credited (g x.tranches) x)) (member op (paid xs))) ≡ tranches_found (cond b (Some x) (member op xs))
      go true r = refl
      go false r = r

  pub paid_there : (op : ℕ) (xs : List Member) → is_none (member op (paid xs)) ≡ is_none (member op xs)
  paid_there op [] = refl
  paid_there op (x ∷ xs) = go (eqb x.operator op) (paid_there op xs)
    where
      go : (b : Bool) → is_none (member op (paid xs)) ≡ is_none (member op xs) →
          is_none (cond b (Some (member_credited (g x.tranches) x)) (member op (paid xs))) ≡ is_none (cond b (Some x) (member op xs))
      go true r = refl
      go false r = r
