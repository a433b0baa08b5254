-- Tranches that enter a roll, one operator at a time.
use Rattle.std.proofs.Common.{◌≡◌, ℕ, zero, suc, ◌+◌, ◌<◌, ◌≤◌, Bool, true, false, cond, eqb, ltb, Some, None, refl, position, List, [], ◌∷◌, ◌++◌, length, get_or, take, drop, set, replicate, sym, ap, ◌∙◌, zero-add, add-one, arith}
use Rattle.std.specs.List.{list_any, position_or_len}
use Rattle.std.proofs.lemmas.List.Quantifiers.{position-Some}
use Rattle.std.proofs.lemmas.List.Sums.{fails_before_first}
use Rattle.std.proofs.ByRecursion.{All-get_or}
use Rattle.std.proofs.lemmas.List.{append_assoc, length-append, length-set, length-take-le, get_or-take, get_or-replicate, take-append-drop, take_all, set_split, set-append_left, at_drop_more, at_drop_all}
use Rattle.std.proofs.lemmas.Bool.{cond-true, cond-false, ltb-false}
use Rattle.book.specs.Lists.{written}
use Rattle.book.specs.Members.{rate_of, Addition, first_tranches, subscribed, newcomer, entered_roll}
use Rattle.checks.specs.Numbers.{bad_rate}
use Rattle.book.specs.declared.entries.RollEntry.{RollEntry}
use Rattle.book.proofs.Passing.{none_of, inside}

-- no year has more tranches than all years together
pub year_most : (ts : List ℕ) (i : ℕ) → get_or ts i 0 ≤ rate_of ts
year_most [] i = omega arith
year_most (t ∷ ts) zero = omega arith
year_most (t ∷ ts) (suc i) = let r = year_most ts i in omega arith

pub rate_at : (roll : List RollEntry) → list_any (λ e. bad_rate (rate_of e.tranches)) roll ≡ false → (i : ℕ) (d : RollEntry) → i < length roll → rate_of (get_or roll i d).tranches ≤ 20
rate_at roll h i d l =
    (inside 1 (rate_of (get_or roll i d).tranches) 20 (All-get_or (λ e. bad_rate (rate_of e.tranches) ≡ false) roll i d l (none_of (λ e. bad_rate (rate_of e.tranches)) roll h))).1

-- a newcomer's tranches
pub first_is : (a : Addition) → a.index ≤ 40 → set (replicate 41 0) a.index a.tranches ≡ first_tranches a
first_is a h = ap (set (replicate 41 0) a.index) (sym (ap (λ n. n + a.tranches) (get_or-replicate 41 a.index 0 0 (omega arith)) ∙ zero-add a.tranches))

-- whether an entry is the operator's
abbrev own : ℕ → RollEntry → Bool
own operator e = eqb e.operator operator

-- entries of others stay as they are
passed_by : (a : Addition) (d : RollEntry) (xs : List RollEntry) (i : ℕ) → ((k : ℕ) → k < i → k < length xs → own a.operator (get_or xs k d) ≡ false) → entered_roll a xs ≡ take i xs ++ entered_roll a (drop i xs)
passed_by a d xs zero others = refl
passed_by a d [] (suc i) others = refl
passed_by a d (x ∷ xs) (suc i) others =
    cond-false _ _ _ (others 0 (omega arith) (omega arith)) ∙ ap (λ es. x ∷ es) (passed_by a d xs i (λ k h l. others (suc k) (omega arith) (omega arith)))

-- where no entry passes, each fails
each_fails : (test : RollEntry → Bool) (xs : List RollEntry) (k : ℕ) (d : RollEntry) → position test xs ≡ None → k < length xs → test (get_or xs k d) ≡ false
each_fails test xs k d none h = go (ltb (position_or_len test xs) (length xs)) refl none
  where
    go : (b : Bool) → ltb (position_or_len test xs) (length xs) ≡ b → cond b (Some (position_or_len test xs)) None ≡ None → test (get_or xs k d) ≡ false
    go true e n = let z : ◌≡◌ {A = ℕ} 0 1 = cc in absurd (omega arith)
    go false e n = let l = ltb-false (position_or_len test xs) (length xs) e in fails_before_first test xs k d (omega arith)

module _ (a : Addition) (xs : List RollEntry) (d : RollEntry) where
  -- the operator's own entry
  pub entered_at : (i : ℕ) → position (own a.operator) xs ≡ Some i → entered_roll a xs ≡ set xs i (subscribed a (get_or xs i d))
  entered_at i found =
      let at = position-Some (own a.operator) xs i d found in
      let h : i < length xs = at.0 in
      passed_by a d xs i (λ k l m. at.2 k l) ∙
      ap (λ es. take i xs ++ es) (at_drop_more (entered_roll a) xs i d h ∙ cond-true _ _ _ at.1) ∙
      ap (λ k. take i xs ++ (subscribed a (get_or xs i d) ∷ drop k xs)) (add-one i) ∙
      sym (set_split xs i (subscribed a (get_or xs i d)) h)

  -- no entry
  pub entered_last : position (own a.operator) xs ≡ None → entered_roll a xs ≡ xs ++ newcomer a ∷ []
  entered_last none =
      passed_by a d xs (length xs) (λ k l h. each_fails (own a.operator) xs k d none h) ∙ (λ k. take_all (length xs) xs (omega arith) k ++ at_drop_all (entered_roll a) xs (length xs) (omega arith) k)

-- an entry that is changed, and one that is placed, among the later places
module _ {A : Type 0} (roll : List A) (n : ℕ) (fits : n ≤ length roll) where
  pub set_written : (i : ℕ) (v : A) → i < n → set roll i v ≡ written (set (take n roll) i v) roll
  set_written i v h =
      let l = length-take-le n roll fits in
      ap (λ es. set es i v) (sym (take-append-drop n roll)) ∙
      set-append_left (take n roll) (drop n roll) i v (omega arith) ∙
      ap (λ k. set (take n roll) i v ++ drop k roll) (sym (length-set (take n roll) i v ∙ l))

  pub last_written : (v : A) → n < length roll → set roll n v ≡ written (take n roll ++ v ∷ []) roll
  last_written v h =
      let l = length-take-le n roll fits in
      set_split roll n v h ∙
      sym (append_assoc (take n roll) (v ∷ []) (drop (suc n) roll)) ∙
      ap (λ k. (take n roll ++ v ∷ []) ++ drop k roll) (let e = length-append (take n roll) (v ∷ []) in let f : suc n ≡ length (take n roll ++ v ∷ []) = omega arith in f)

-- the same, of the counted entries of a roll
module _ (a : Addition) (roll : List RollEntry) (n : ℕ) (fits : n ≤ length roll) (d : RollEntry) where
  module _ (i : ℕ) (found : position (own a.operator) (take n roll) ≡ Some i) where
    pub place_counted : i < n
    place_counted = let l = length-take-le n roll fits in let p = (position-Some (own a.operator) (take n roll) i d found).0 in omega arith

    pub entered_here : (n ≡ length (entered_roll a (take n roll))) × (set roll i (subscribed a (get_or roll i d)) ≡ written (entered_roll a (take n roll)) roll)
    entered_here =
        let l = length-take-le n roll fits in
        let e : entered_roll a (take n roll) ≡ set (take n roll) i (subscribed a (get_or roll i d)) =
        entered_at a (take n roll) d i found ∙ ap (λ x. set (take n roll) i (subscribed a x)) (get_or-take n roll i d place_counted) in (
          sym (ap length e ∙ length-set (take n roll) i (subscribed a (get_or roll i d)) ∙ l),
          set_written roll n fits i (subscribed a (get_or roll i d)) place_counted ∙ ap (λ es. written es roll) (sym e),
        )

  module _ (none : position (own a.operator) (take n roll) ≡ None) where
    entered_after : entered_roll a (take n roll) ≡ take n roll ++ newcomer a ∷ []
    entered_after = entered_last a (take n roll) d none

    pub entered_count : n + 1 ≡ length (entered_roll a (take n roll))
    entered_count =
        let l = length-take-le n roll fits in
        let e = ap length entered_after in
        let f = length-append (take n roll) (newcomer a ∷ []) in omega arith

    pub entered_new : length (entered_roll a (take n roll)) ≤ length roll → set roll n (newcomer a) ≡ written (entered_roll a (take n roll)) roll
    entered_new room =
        let e = entered_count in
        last_written roll n fits (newcomer a) (omega arith) ∙ ap (λ es. written es roll) (sym entered_after)
