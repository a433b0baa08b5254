-- What an answer says of the conditions that its call passed or met.
use Rattle.std.proofs.Common.{◌≡◌, ℕ, ◌≤◌, Bool, true, false, cond, not, ◌||◌, T, leb, List, [], ◌∷◌, Some, None, Ok, Err, Option, Result, refl, ap, arith}
use Rattle.std.specs.List.{AllByRecursion, list_any}
use Rattle.std.proofs.lemmas.Bool.{not-false, and_parts, leb-true}
use Rattle.refusal.specs.Checks.{Check, first, unless, then_do, in_turn}
use Rattle.refusal.specs.declared.Refusal.{Refusal}
use Rattle.calendar.specs.Days.{is_date, within}

-- no condition holds
abbrev pub Clear : List Check → Type 0
Clear [] = Unit {0}
Clear (c ∷ cs) = (c.holds ≡ false) × Clear cs

pub clear : (cs : List Check) → first cs ≡ None → Clear cs
clear [] e = tt
clear (c ∷ cs) e = go c.holds refl e (clear cs)
  where
    go : (b : Bool) → c.holds ≡ b → cond b (Some c.says) (first cs) ≡ None → (first cs ≡ None → Clear cs) → (c.holds ≡ false) × Clear cs
    go true q h r = let z : ◌≡◌ {A = ℕ} 0 1 = cc in absurd (omega arith)
    go false q h r = (q, r h)

-- nor at any place
abbrev pub AllClear : List (List Check) → Type 0
AllClear [] = Unit {0}
AllClear (place ∷ places) = Clear place × AllClear places

pub none_holds : (cs : List Check) → Clear cs → first cs ≡ None
none_holds [] ok = refl
none_holds (c ∷ cs) ok = let (passes, rest) = ok in rw passes (none_holds cs rest)

-- a place that passed leaves the rest
pub past : {A : Type 0} (place : List Check) (places : List (List Check)) (a : A) → Clear place → in_turn (place ∷ places) a ≡ in_turn places a
past place places a ok = ap (λ x. then_do (unless x (tt {0})) (in_turn places a)) (none_holds place ok)

-- what holds of a refusal, and of the effect where no condition holds, holds of the answer
pub settles : {A : Type 0} (places : List (List Check)) (effect : A) (P : Result A Refusal → Type 0) →
    ((r : Refusal) → P (Err r)) → (AllClear places → P (Ok effect)) → P (in_turn places effect)
settles [] effect P no' yes' = yes' tt
settles (place ∷ places) effect P no' yes' = go (first place) refl (λ passes. settles places effect P no' (λ rest. yes' (passes, rest)))
  where
    go : (x : Option Refusal) → first place ≡ x → (Clear place → P (in_turn places effect)) → P (then_do (unless x (tt {0})) (in_turn places effect))
    go None e further = further (clear place e)
    go (Some r) e further = no' r

-- an accepted call: no condition held, and the effect is its own
pub accepted_is : {A : Type 0} (places : List (List Check)) (effect e : A) → in_turn places effect ≡ Ok e → AllClear places × (effect ≡ e)
accepted_is places effect e =
    settles places effect (λ r. r ≡ Ok e → AllClear places × (effect ≡ e))
    (λ r h. let z : ◌≡◌ {A = ℕ} 0 1 = cc in absurd (omega arith))
    (λ ok h. (ok, cc))

-- every element fails a test that none passes
pub none_of : {A : Type 0} (test : A → Bool) (xs : List A) → list_any test xs ≡ false → AllByRecursion (λ x. test x ≡ false) xs
none_of test [] h = tt
none_of test (x ∷ xs) h = go (test x) refl h (none_of test xs)
  where
    go : (b : Bool) → test x ≡ b → (b || list_any test xs) ≡ false → (list_any test xs ≡ false → AllByRecursion (λ x. test x ≡ false) xs) → (test x ≡ false) × AllByRecursion (λ x. test x ≡ false) xs
    go true q k r = let z : ◌≡◌ {A = ℕ} 0 1 = cc in absurd (omega arith)
    go false q k r = (q, r k)

-- a number that is not outside two limits is between them
pub inside : (low n high : ℕ) → not (within low n high) ≡ false → (low ≤ n) × (n ≤ high)
inside low n high h =
    let p = and_parts (leb low n) (leb n high) (not-false (within low n high) h) in (leb-true low n p.0, leb-true n high p.1)

pub real_of : (d : ℕ) → not (is_date d) ≡ false → T (is_date d)
real_of d h = go (is_date d) h
  where
    go : (b : Bool) → not b ≡ false → T b
    go true h = tt
    go false h = let z : ◌≡◌ {A = ℕ} 0 1 = cc in absurd (omega arith)
