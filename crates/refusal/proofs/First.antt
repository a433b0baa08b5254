-- One check after the other gives the first refusal of them all, and the same checks before two answers refuse alike.
use Rattle.std.proofs.Common.{◌≡◌, ℕ, Bool, true, false, cond, List, [], ◌∷◌, Some, None, Ok, Err, Option, sym, refl, ap, arith}
use Rattle.refusal.specs.Checks.{Check, first, unless, passing, then_do, in_turn}
use Rattle.refusal.specs.declared.Refusal.{Refusal}

-- a check that let a value through: it did not hold, and the value is its own
by_pass : {A : Type 0} (b : Bool) (r : Refusal) (a x : A) → unless (cond b (Some r) None) a ≡ Ok x → b ≡ false
by_pass true r a x is = let no : ◌≡◌ {A = ℕ} 0 1 = cc in absurd (omega arith)
by_pass false r a x is = refl

pub passed : {A : Type 0} (k : Check) (a x : A) → unless (first (k ∷ [])) a ≡ Ok x → k.holds ≡ false
passed k a x is = by_pass k.holds k.says a x is

pub let_through : {A : Type 0} (o : Option Refusal) (a x : A) → unless o a ≡ Ok x → a ≡ x
let_through None a x is = cc
let_through (Some r) a x is = let no : ◌≡◌ {A = ℕ} 0 1 = cc in absurd (omega arith)

-- a place that let something through leaves those after it, one that did not gives the refusal, and the last one answers
pub later_places : {A B : Type 0} (place : List Check) (places : List (List Check)) (b : B) (a x : A) → unless (first place) a ≡ Ok x → in_turn places b ≡ in_turn (place ∷ places) b
later_places {A = A} {B = B} place places b a x is = go (first place) is
  where
    go : (o : Option Refusal) → unless o a ≡ Ok x → in_turn places b ≡ then_do (unless o (tt {0})) (in_turn places b)
    go None h = refl
    go (Some r) h = let no : ◌≡◌ {A = ℕ} 0 1 = cc in absurd (omega arith)

pub refused_here : {A B : Type 0} (place : List Check) (places : List (List Check)) (b : B) (a : A) (e : Refusal) → unless (first place) a ≡ Err e → Err e ≡ in_turn (place ∷ places) b
refused_here {A = A} {B = B} place places b a e is = go (first place) is
  where
    go : (o : Option Refusal) → unless o a ≡ Err e → Err e ≡ then_do (unless o (tt {0})) (in_turn places b)
    go None h = let no : ◌≡◌ {A = ℕ} 0 1 = cc in absurd (omega arith)
    go (Some r) h = let same : r ≡ e = cc in ap Err (sym same)

pub last_place : (place : List Check) → passing place ≡ in_turn (place ∷ []) (tt {0})
last_place place = go (first place)
  where
    go : (o : Option Refusal) → unless o (tt {0}) ≡ then_do (unless o (tt {0})) (Ok (tt {0}))
    go None = refl
    go (Some r) = refl

-- the same places before two answers
pub still_refused : {A B : Type 0} (places : List (List Check)) (a : A) (b : B) (e : Refusal) → in_turn places a ≡ Err e → Err e ≡ in_turn places b
still_refused [] a b e is = let no : ◌≡◌ {A = ℕ} 0 1 = cc in absurd (omega arith)
still_refused {A = A} {B = B} (place ∷ places) a b e is = go (first place) (still_refused places a b e) is
  where
    go : (o : Option Refusal) → (in_turn places a ≡ Err e → Err e ≡ in_turn places b) →
        then_do (unless o (tt {0})) (in_turn places a) ≡ Err e → Err e ≡ then_do (unless o (tt {0})) (in_turn places b)
    go None rest h = rest h
    go (Some r) rest h = let same : r ≡ e = cc in ap Err (sym same)

pub carried : {A B : Type 0} (places : List (List Check)) (a x : A) (f : A → B) → in_turn places a ≡ Ok x → Ok (f x) ≡ in_turn places (f a)
carried [] a x f is = let same : a ≡ x = cc in ap (λ y. Ok (f y)) (sym same)
carried (place ∷ places) a x f is = go (first place) (carried places a x f) is
  where
    go : (o : Option Refusal) → (in_turn places a ≡ Ok x → Ok (f x) ≡ in_turn places (f a)) →
        then_do (unless o (tt {0})) (in_turn places a) ≡ Ok x → Ok (f x) ≡ then_do (unless o (tt {0})) (in_turn places (f a))
    go None rest h = rest h
    go (Some r) rest h = let no : ◌≡◌ {A = ℕ} 0 1 = cc in absurd (omega arith)
