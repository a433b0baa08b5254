-- Steps go on with a life, and what a step is answered.
use Rattle.std.proofs.Common.{◌≡◌, ℕ, Bool, true, false, List, [], ◌∷◌, Some, None, Ok, Err, Option, refl, arith}
use Rattle.refusal.specs.declared.Refusal.{Refusal}
use Rattle.refusal.specs.declared.Refusal.TheVariants.{BadTables}
use Rattle.tariff.specs.Meaning.{Meaning}
use Rattle.book.specs.Zone.{State, Answer, state_after}
use Rattle.book.specs.Tally.{Made}
use Rattle.book.specs.Life.{made, Life, goes_on}
use Rattle.book.specs.Cuts.{Accepts, Refuses}
use Rattle.book.specs.Runs.{Step, answer_at, effect_in, effect_at, next, with_call, lived, calls}

-- steps go on with a life
pub lives : (m : Meaning) (steps : List Step) (s : State) (before : List Made) → Life m before s → Life m (calls m s steps before) (lived m s steps)
lives m [] s before life = life
lives m (step ∷ steps) s before life = go (answer_at m s step) refl (λ t more. lives m steps t more)
  where
    go : (a : Option Answer) → answer_at m s step ≡ a → ((t : State) (more : List Made) → Life m more t → Life m (calls m t steps more) (lived m t steps)) →
        Life m (calls m (next s a) steps (with_call step.call a before)) (lived m (next s a) steps)
    go None e r = r s before life
    go (Some answer) e r = r (state_after s answer) (made step.call answer ∷ before) (goes_on step.places step.call life e)

-- what a step is answered, by its number alone
abbrev pub is_accepted : Option Answer → Bool
is_accepted None = false
is_accepted (Some (Ok effect)) = true
is_accepted (Some (Err refusal)) = false

abbrev pub is_refused : Option Answer → Bool
is_refused None = false
is_refused (Some (Ok effect)) = false
is_refused (Some (Err refusal)) = true

abbrev refusal_in : Option Answer → Refusal
refusal_in None = BadTables
refusal_in (Some (Ok effect)) = BadTables
refusal_in (Some (Err refusal)) = refusal

by_effect : (a : Option Answer) → is_accepted a ≡ true → a ≡ Some (Ok (effect_in a))
by_effect None t = let z : ◌≡◌ {A = ℕ} 0 1 = cc in absurd (omega arith)
by_effect (Some (Ok effect)) t = refl
by_effect (Some (Err refusal)) t = let z : ◌≡◌ {A = ℕ} 0 1 = cc in absurd (omega arith)

by_refusal : (a : Option Answer) → is_refused a ≡ true → a ≡ Some (Err (refusal_in a))
by_refusal None t = let z : ◌≡◌ {A = ℕ} 0 1 = cc in absurd (omega arith)
by_refusal (Some (Ok effect)) t = let z : ◌≡◌ {A = ℕ} 0 1 = cc in absurd (omega arith)
by_refusal (Some (Err refusal)) t = refl

pub accepts : (m : Meaning) (s : State) (step : Step) → is_accepted (answer_at m s step) ≡ true → Accepts m s step.call (effect_at m s step)
accepts m s step t = record { places = step.places; answer = by_effect (answer_at m s step) t }

pub refuses : (m : Meaning) (s : State) (step : Step) → is_refused (answer_at m s step) ≡ true → Refuses m s step.call
refuses m s step t = record { places = step.places; refusal = refusal_in (answer_at m s step); answer = by_refusal (answer_at m s step) t }
