-- Conditions in their order, each with the refusal that it gives: the first that holds answers.
use Rattle.std.specs.Prelude.{Bool, cond, List, [], ◌∷◌, Some, None, Ok, Err, Option, Result}
use Rattle.refusal.specs.declared.Refusal.{Refusal}

pub record Check : Type 0 where
  pub holds : Bool
  pub says : Refusal

infix 20 ◌⇒◌
abbrev pub ◌⇒◌ : Bool → Refusal → Check
b ⇒ r = record { holds = b; says = r }

-- the refusal of the first condition that holds, if any does
abbrev pub first : List Check → Option Refusal
first [] = None
first (c ∷ cs) = cond c.holds (Some c.says) (first cs)

-- a refusal if there is one, else the answer
abbrev pub unless : {A : Type 0} → Option Refusal → A → Result A Refusal
unless None a = Ok a
unless (Some r) a = Err r

-- The answer of some checks alone.
abbrev pub passing : List Check → Result (Unit {0}) Refusal
passing checks = unless (first checks) tt

-- An answer, and what comes after it unless it is a refusal.
abbrev pub then_do : {A B : Type 0} → Result A Refusal → Result B Refusal → Result B Refusal
then_do (Ok a) next = next
then_do (Err r) next = Err r

-- An answer after the checks of each place, made in turn: the first check that holds refuses.
abbrev pub in_turn : {A : Type 0} → List (List Check) → A → Result A Refusal
in_turn [] a = Ok a
in_turn (place ∷ places) a = then_do (passing place) (in_turn places a)
