-- How rates grow as tranches are entered.
use Rattle.std.proofs.Common.{◌≡◌, ℕ, zero, suc, ◌+◌, ◌<◌, ◌≤◌, Bool, true, false, cond, not, eqb, List, [], ◌∷◌, length, get_or, set, replicate, Some, None, Option, refl, arith, is_none}
use Rattle.std.specs.List.{AllByRecursion}
use Rattle.book.specs.Lists.{total}
use Rattle.book.specs.Members.{Member, rate_of, member, tranches_found, present_rate, Addition, more_tranches, first_tranches, member_subscribed, entered_members}
use Rattle.book.proofs.Entering.{Shaped, paid}
use Rattle.book.proofs.Amounts.{Rated}

rate_set : (ts : List ℕ) (n k : ℕ) → n < length ts → rate_of (set ts n (get_or ts n 0 + k)) ≡ rate_of ts + k
rate_set [] n k h = absurd (omega arith)
rate_set (t ∷ ts) zero k h = omega arith
rate_set (t ∷ ts) (suc n) k h = let r = rate_set ts n k (omega arith) in omega arith

no_rate : (n : ℕ) → rate_of (replicate n 0) ≡ 0
no_rate zero = refl
no_rate (suc n) = let r = no_rate n in omega arith

abbrev pub rates_of : List Member → ℕ
rates_of xs = total (λ x. rate_of x.tranches) xs

module _ (a : Addition) (few : a.index ≤ 40) where
  pub more_rate : (ts : List ℕ) → length ts ≡ 41 → rate_of (more_tranches a ts) ≡ rate_of ts + a.tranches
  more_rate ts l = rate_set ts a.index a.tranches (omega arith)

  pub first_rate : rate_of (first_tranches a) ≡ a.tranches
  first_rate = let r = more_rate (replicate 41 0) refl in let z = no_rate 41 in omega arith

  -- all rates together grow by the tranches entered
  pub rates_grow : (xs : List Member) → AllByRecursion Shaped xs → rates_of (entered_members a xs) ≡ rates_of xs + a.tranches
  rates_grow [] h = let r = first_rate in omega arith
  rates_grow (x ∷ xs) h = go (eqb x.operator a.operator) (rates_grow xs h.1)
    where
      go : (b : Bool) → rates_of (entered_members a xs) ≡ rates_of xs + a.tranches →
          rates_of (cond b (member_subscribed a x ∷ xs) (x ∷ entered_members a xs)) ≡ rate_of x.tranches + rates_of xs + a.tranches
      go true r = let q = more_rate x.tranches h.0 in omega arith
      go false r = omega arith

  -- a rate that the operator may have stays within the limit
  pub rated_stays : (xs : List Member) → AllByRecursion Shaped xs → AllByRecursion Rated xs → present_rate a.operator xs + a.tranches ≤ 20 → AllByRecursion Rated (entered_members a xs)
  rated_stays [] s h fits = let r = first_rate in (omega arith, tt)
  rated_stays (x ∷ xs) s h fits = go (eqb x.operator a.operator) fits (rated_stays xs s.1 h.1)
    where
      go : (b : Bool) → rate_of (tranches_found (cond b (Some x) (member a.operator xs))) + a.tranches ≤ 20 →
          (present_rate a.operator xs + a.tranches ≤ 20 → AllByRecursion Rated (entered_members a xs)) →
          AllByRecursion Rated (cond b (member_subscribed a x ∷ xs) (x ∷ entered_members a xs))
      go true fits r = let q = more_rate x.tranches s.0 in (omega arith, h.1)
      go false fits r = (h.0, r fits)

  -- the operator's rate grows by them
  pub present_grows : (xs : List Member) → AllByRecursion Shaped xs → is_none (member a.operator xs) ≡ false → present_rate a.operator (entered_members a xs) ≡ present_rate a.operator xs + a.tranches
  present_grows [] s h = let z : ◌≡◌ {A = ℕ} 0 1 = cc in absurd (omega arith)
  present_grows (x ∷ xs) s h = go (eqb x.operator a.operator) refl h (present_grows xs s.1)
    where
      go : (b : Bool) → eqb x.operator a.operator ≡ b → is_none (cond b (Some x) (member a.operator xs)) ≡ false →
          (is_none (member a.operator xs) ≡ false → present_rate a.operator (entered_members a xs) ≡ present_rate a.operator xs + a.tranches) →
          present_rate a.operator (cond b (member_subscribed a x ∷ xs) (x ∷ entered_members a xs)) ≡ rate_of (tranches_found (cond b (Some x) (member a.operator xs))) + a.tranches
      go true q h r = rw q (more_rate x.tranches s.0)
      go false q h r = rw q (r h)

pub present_most : (op : ℕ) (xs : List Member) → AllByRecursion Rated xs → present_rate op xs ≤ 20
present_most op [] h = omega arith
present_most op (x ∷ xs) h = go (eqb x.operator op) (present_most op xs h.1)
  where
    go : (b : Bool) → present_rate op xs ≤ 20 → rate_of (tranches_found (cond b (Some x) (member op xs))) ≤ 20
    go true r = h.0
    go false r = r

-- a stranger has no rate
pub stranger : (o : Option Member) → not (is_none o) ≡ false → rate_of (tranches_found o) ≡ 0
stranger None h = refl
stranger (Some x) h = let z : ◌≡◌ {A = ℕ} 0 1 = cc in absurd (omega arith)

module _ (g : List ℕ → ℕ) where
  pub paid_rated : (xs : List Member) → AllByRecursion Rated xs → AllByRecursion Rated (paid g xs)
  paid_rated [] h = tt
  paid_rated (x ∷ xs) h = (h.0, paid_rated xs h.1)

  pub paid_rates : (xs : List Member) → rates_of (paid g xs) ≡ rates_of xs
  paid_rates [] = refl
  paid_rates (x ∷ xs) = let r = paid_rates xs in omega arith
