-- How many lines a share-out writes, as its code counts them.
use Rattle.std.proofs.Common.{◌≡◌, ℕ, zero, suc, ◌*◌, ◌≤◌, Bool, true, false, cond, List, [], ◌∷◌, length, refl, ◌∙◌, mul_comm, mul-le-mul, zero-mul, arith, flat_map}
use Rattle.tariff.specs.Meaning.{Meaning}
use Rattle.book.specs.Members.{Member, Addition, weight_to, whole_weight}
use Rattle.book.specs.Sharing.{object_contribution, serves, due, credit, credits}
use Rattle.book.specs.Increases.{contributing, weighing, lines_shared}
use Rattle.book.specs.declared.entries.RegisterEntry.{RegisterEntry}
use Rattle.book.proofs.Totals.{total_same, total_scaled, length_flat_map}

one_or_none : {A : Type 0} (b : Bool) (x : A) → length (cond b (x ∷ []) []) ≡ cond b 1 0
one_or_none true x = refl
one_or_none false x = refl

-- a share is due where amount and weight are both above 0, each by itself
due_apart : (amount weight : ℕ) → due amount weight ≡ due amount 1 * due 1 weight
due_apart zero weight = omega (arith, zero-mul (due 1 weight))
due_apart (suc amount) zero = refl
due_apart (suc amount) (suc weight) = refl

due_one : (amount weight : ℕ) → due amount weight ≤ 1
due_one zero weight = omega arith
due_one (suc amount) zero = omega arith
due_one (suc amount) (suc weight) = omega arith

pub contributing_most : (m : Meaning) (a : Addition) (objects : List RegisterEntry) → contributing m a objects ≤ length objects
contributing_most m a [] = omega arith
contributing_most m a (o ∷ os) = let here = due_one (object_contribution m a o) 1 in let rest = contributing_most m a os in omega arith

pub weighing_most : (m : Meaning) (index : ℕ) (members : List Member) → weighing m index members ≤ length members
weighing_most m index [] = omega arith
weighing_most m index (x ∷ xs) = let here = due_one 1 (weight_to m index x.tranches) in let rest = weighing_most m index xs in omega arith

-- at most one for each object and operator together
pub lines_most : (m : Meaning) (a : Addition) (objects : List RegisterEntry) (members : List Member) → lines_shared m a objects members ≤ length objects * length members
lines_most m a objects members = mul-le-mul (contributing_most m a objects) (weighing_most m a.index members)

pub counted_credits : (m : Meaning) (a : Addition) (objects : List RegisterEntry) (members : List Member) → length (credits m a objects members) ≡ lines_shared m a objects members
counted_credits m a objects members =
    let whole = whole_weight m a.index members in
    length_flat_map (λ o. flat_map (credit m a whole o) members) objects ∙
    total_same (λ o. length (flat_map (credit m a whole o) members)) (λ o. weighing m a.index members * due (object_contribution m a o) 1)
    (λ o. length_flat_map (credit m a whole o) members ∙
    total_same (λ x. length (credit m a whole o x)) (λ x. due (object_contribution m a o) 1 * due 1 (weight_to m a.index x.tranches))
    (λ x. one_or_none (serves (object_contribution m a o) (weight_to m a.index x.tranches)) _ ∙ due_apart (object_contribution m a o) (weight_to m a.index x.tranches)) members ∙
    total_scaled (due (object_contribution m a o) 1) (λ x. due 1 (weight_to m a.index x.tranches)) members ∙
    mul_comm (due (object_contribution m a o) 1) (weighing m a.index members)) objects ∙
    total_scaled (weighing m a.index members) (λ o. due (object_contribution m a o) 1) objects ∙
    mul_comm (weighing m a.index members) (contributing m a objects)
