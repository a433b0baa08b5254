-- How many lines calls write.
use Rattle.std.proofs.Common.{ℕ, ◌*◌, ◌≤◌, Bool, true, false, cond, List, [], ◌∷◌, length, arith, flat_map}
use Rattle.std.proofs.lemmas.List.{length-map}
use Rattle.std.specs.List.{AllByRecursion}
use Rattle.tariff.specs.Meaning.{Meaning}
use Rattle.book.specs.Lines.{line}
use Rattle.book.specs.Members.{Member, weight_to, whole_weight, Addition}
use Rattle.unit_prices.specs.Prices.{earlier, unit_contribution}
use Rattle.book.specs.Billing.{billed, bill}
use Rattle.book.specs.Sharing.{amount_divided, serves, unit_share, share_count, credit, credits}
use Rattle.book.specs.Grounds.{LinesCounted}
use Rattle.book.specs.declared.entries.RegisterEntry.{RegisterEntry}
use Rattle.book.specs.declared.lines.Line.{Line}
use Rattle.book.specs.declared.lines.Nature.TheVariants.{Contribution, Credit}
use Rattle.book.proofs.Totals.{length_flat_map, total_most}

-- what holds of every element holds of those of a list
all_hold : {A : Type 0} (P : A → Type 0) → ((x : A) → P x) → (xs : List A) → AllByRecursion P xs
all_hold P h [] = tt
all_hold P h (x ∷ xs) = (h x, all_hold P h xs)

one_or_none : (b : Bool) (l : Line) → length (cond b (l ∷ []) []) ≤ 1
one_or_none true l = omega arith
one_or_none false l = omega arith

two_at_most : (m : Meaning) (a : Addition) (o : RegisterEntry) → length (billed m a o) ≤ 2
two_at_most m a o =
    let h = one_or_none (earlier o.installed a.date) (line Contribution a.operator o.object (unit_contribution m o.kind o.installed a.date a.tranches) o.dwellings) in omega arith

bill_count : (m : Meaning) (a : Addition) (os : List RegisterEntry) → length (bill m a os) ≤ 2 * length os
bill_count m a os =
    let l = length_flat_map (billed m a) os in
    let t = total_most (λ o. length (billed m a o)) 2 os (all_hold (λ o. length (billed m a o) ≤ 2) (two_at_most m a) os) in omega arith

row_count : (m : Meaning) (a : Addition) (w : ℕ) (xs : List Member) (o : RegisterEntry) → length (flat_map (credit m a w o) xs) ≤ length xs
row_count m a w xs o =
    let l = length_flat_map (credit m a w o) xs in
    let t = total_most (λ x. length (credit m a w o x)) 1 xs
    (all_hold (λ x. length (credit m a w o x) ≤ 1)
    (λ x. one_or_none (serves (amount_divided m a o) (weight_to m a.index x.tranches)) (line Credit x.operator o.object (unit_share m (amount_divided m a o) (weight_to m a.index x.tranches) w) (share_count o))) xs) in omega arith

credits_count : (m : Meaning) (a : Addition) (os : List RegisterEntry) (xs : List Member) → length (credits m a os xs) ≤ length xs * length os
credits_count m a os xs =
    let l = length_flat_map (λ o. flat_map (credit m a (whole_weight m a.index xs) o) xs) os in
    let t = total_most (λ o. length (flat_map (credit m a (whole_weight m a.index xs) o) xs)) (length xs) os
    (all_hold (λ o. length (flat_map (credit m a (whole_weight m a.index xs) o) xs) ≤ length xs) (row_count m a (whole_weight m a.index xs) xs) os) in omega arith

pub lines_counted : LinesCounted
lines_counted = record { charged = λ m o xs. length-map xs _; billed = bill_count; credited = credits_count }
