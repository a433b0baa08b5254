-- What is priced on a sheet that was made.
use Rattle.std.proofs.Common.{◌≡◌, Ok, Result, ap}
use Rattle.refusal.specs.declared.Refusal.{Refusal}
use Rattle.requests.specs.Fields.{then_do}

pub made_of : {A : Type 0} (made : Result (Unit {0}) Refusal) (u : Unit {0}) (answer : Result A Refusal) → Ok u ≡ made → answer ≡ then_do made (λ _. answer)
made_of made u answer is = ap (λ r. then_do r (λ _. answer)) is
