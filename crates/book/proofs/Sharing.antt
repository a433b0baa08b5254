-- One share-out: what its lines come to, and what it holds back.
use Rattle.std.proofs.Common.{◌≡◌, ℕ, zero, suc, ◌*◌, ◌<◌, ◌≤◌, Bool, true, false, cond, List, [], ◌∷◌, length, refl, ap, ◌∙◌, mul-le-mul, arith}
use Rattle.std.specs.List.{AllByRecursion}
use Rattle.tariff.specs.Meaning.{Meaning, Lawful}
use Rattle.book.specs.Limits.{most_contribution, most_whole_weight}
use Rattle.book.specs.Lists.{total}
use Rattle.book.specs.Lines.{line}
use Rattle.book.specs.Members.{Member, Addition, weight_to, whole_weight}
use Rattle.book.specs.Sharing.{object_contribution, amount_divided, serves, unit_share, share_of, due_of, credit, credits}
use Rattle.book.specs.declared.entries.RegisterEntry.{RegisterEntry}
use Rattle.book.specs.declared.lines.Nature.TheVariants.{Credit}
use Rattle.book.proofs.Totals.{total_same, total_flat_map, length_flat_map}
use Rattle.book.proofs.Holding.{Within, conserved, within_add}
use Rattle.book.proofs.Entering.{Shaped}
use Rattle.book.proofs.Amounts.{Rated, Sized, weights_most, amount_most}

module _ (m : Meaning) (a : Addition) where
  abbrev pub shares_all : List RegisterEntry → List Member → ℕ
  shares_all os xs = total (λ o. total (λ x. share_of m a (whole_weight m a.index xs) o x.tranches) xs) os

  abbrev pub dues_all : List RegisterEntry → List Member → ℕ
  dues_all os xs = total (λ o. total (λ x. due_of m a o x.tranches) xs) os

  line_total : (o : RegisterEntry) (w : ℕ) (x : Member) → total (λ l. l.total) (credit m a w o x) ≡ share_of m a w o x.tranches
  line_total o w x = go (serves (amount_divided m a o) (weight_to m a.index x.tranches)) (unit_share m (amount_divided m a o) (weight_to m a.index x.tranches) w)
    where
      go : (b : Bool) (u : ℕ) → total (λ l. l.total) (cond b (line Credit x.operator o.object u 1 ∷ []) []) ≡ cond b (u * 1) 0
      go true u = omega arith
      go false u = refl

  line_count : (o : RegisterEntry) (w : ℕ) (x : Member) → length (credit m a w o x) ≡ due_of m a o x.tranches
  line_count o w x = go (serves (amount_divided m a o) (weight_to m a.index x.tranches)) (unit_share m (amount_divided m a o) (weight_to m a.index x.tranches) w)
    where
      go : (b : Bool) (u : ℕ) → length (cond b (line Credit x.operator o.object u 1 ∷ []) []) ≡ cond b 1 0
      go true u = refl
      go false u = refl

  pub credits_total : (os : List RegisterEntry) (xs : List Member) → total (λ l. l.total) (credits m a os xs) ≡ shares_all os xs
  credits_total os xs =
      total_flat_map (λ l. l.total) _ os ∙
      total_same _ _ (λ o. total_flat_map (λ l. l.total) _ xs ∙ total_same _ _ (line_total o (whole_weight m a.index xs)) xs) os

  pub credits_count : (os : List RegisterEntry) (xs : List Member) → length (credits m a os xs) ≡ dues_all os xs
  credits_count os xs =
      length_flat_map _ os ∙
      total_same _ _ (λ o. length_flat_map _ xs ∙ total_same _ _ (line_count o (whole_weight m a.index xs)) xs) os

  -- what one share-out holds back, over all objects
  pub shares_within : Lawful m → a.tranches ≤ 20 → (xs : List Member) → AllByRecursion Shaped xs → AllByRecursion Rated xs → length xs ≤ 16 → 0 < whole_weight m a.index xs →
      (os : List RegisterEntry) → AllByRecursion Sized os →
      Within (dues_all os xs) (total (object_contribution m a) os) (shares_all os xs)
  shares_within law few xs shaped rates short pos [] small = omega arith
  shares_within law few xs shaped rates short pos (o ∷ os) small =
      let w : whole_weight m a.index xs ≤ most_whole_weight = weights_most m law a.index xs shaped rates short in
      let q : object_contribution m a o ≤ most_contribution = let r = amount_most m law a few o small.0 in omega arith in
      let p : object_contribution m a o * whole_weight m a.index xs ≤ most_contribution * most_whole_weight = mul-le-mul q w in
      within_add (total (λ x. due_of m a o x.tranches) xs) _ (object_contribution m a o) _ _ _
      (conserved (λ x. weight_to m a.index x.tranches) m law (object_contribution m a o) xs (omega arith) pos (omega arith))
      (shares_within law few xs shaped rates short pos os small.1)

  unserved : (n : ℕ) → serves n 0 ≡ false
  unserved zero = refl
  unserved (suc n) = refl

  -- where nobody weighs anything, nothing is shared
  none_shared : (o : RegisterEntry) (w : ℕ) (xs : List Member) → whole_weight m a.index xs ≡ 0 → total (λ x. share_of m a w o x.tranches) xs ≡ 0
  none_shared o w [] h = refl
  none_shared o w (x ∷ xs) h =
      let z : weight_to m a.index x.tranches ≡ 0 = omega arith in
      let q : serves (amount_divided m a o) (weight_to m a.index x.tranches) ≡ false = ap (serves (amount_divided m a o)) z ∙ unserved (amount_divided m a o) in
      let s : share_of m a w o x.tranches ≡ 0 = rw q in
      let r = none_shared o w xs (omega arith) in omega arith

  none_due : (o : RegisterEntry) (xs : List Member) → whole_weight m a.index xs ≡ 0 → total (λ x. due_of m a o x.tranches) xs ≡ 0
  none_due o [] h = refl
  none_due o (x ∷ xs) h =
      let z : weight_to m a.index x.tranches ≡ 0 = omega arith in
      let q : serves (amount_divided m a o) (weight_to m a.index x.tranches) ≡ false = ap (serves (amount_divided m a o)) z ∙ unserved (amount_divided m a o) in
      let s : due_of m a o x.tranches ≡ 0 = rw q in
      let r = none_due o xs (omega arith) in omega arith

  pub none_shared_all : (xs : List Member) → whole_weight m a.index xs ≡ 0 → (os : List RegisterEntry) → shares_all os xs ≡ 0
  none_shared_all xs h [] = refl
  none_shared_all xs h (o ∷ os) = let q = none_shared o (whole_weight m a.index xs) xs h in let r = none_shared_all xs h os in omega arith

  pub none_due_all : (xs : List Member) → whole_weight m a.index xs ≡ 0 → (os : List RegisterEntry) → dues_all os xs ≡ 0
  none_due_all xs h [] = refl
  none_due_all xs h (o ∷ os) = let q = none_due o xs h in let r = none_due_all xs h os in omega arith
