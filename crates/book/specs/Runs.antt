-- Calls carried out one after the other, so that examples compute.
--   blank       an empty zone over tables of some places, whose content no zone counts
--   Step        a call, and the places of the strip that it is given
--   effect_at   state and lines of a step that is accepted
--   told        what each step is answered: 0 where it is accepted, else the refusal's number;
--               none where it is not taken
--   lived       the state after all steps
--   calls       the calls made, the newest first
use Rattle.std.specs.Prelude.{ℕ, List, [], ◌∷◌, replicate, Some, None, Ok, Err, Option}
use Rattle.refusal.specs.Numbers.{number_of}
use Rattle.tariff.specs.Meaning.{Meaning}
use Rattle.tariff.specs.declared.kinds.Kind.TheVariants.{ThirdParty}
use Rattle.book.specs.Limits.{years}
use Rattle.book.specs.Zone.{State, Effect, Answer, state_after}
use Rattle.book.specs.Calls.{Call}
use Rattle.book.specs.Tally.{Made}
use Rattle.book.specs.Life.{empty_state, answer_to, made}
use Rattle.book.specs.declared.entries.RegisterEntry.{RegisterEntry}
use Rattle.book.specs.declared.entries.RollEntry.{RollEntry}
use Rattle.book.specs.declared.lines.Line.{Line}

abbrev pub blank_operator : RollEntry
blank_operator = record { operator = 99; tranches = replicate years 7; balance = 5 }

abbrev pub blank_object : RegisterEntry
blank_object = record { object = 98; kind = ThirdParty; installed = 3; dwellings = 0 }

-- An empty zone over tables of some places.
abbrev pub blank : ℕ → ℕ → State
blank operators objects =
    let roll = replicate operators blank_operator in
    let register = replicate objects blank_object in
    empty_state (record { roll = roll; register = register })

pub record Step : Type 0 where
  pub call : Call
  pub places : ℕ

infix 80 ◌on◌
abbrev pub ◌on◌ : Call → ℕ → Step
call on places = record { call = call; places = places }

abbrev pub answer_at : Meaning → State → Step → Option Answer
answer_at m s step = answer_to m s step.places step.call

abbrev pub said : Option Answer → Option ℕ
said None = None
said (Some (Ok effect)) = Some 0
said (Some (Err refusal)) = Some (number_of refusal)

abbrev pub lines_in : Option Answer → List Line
lines_in None = []
lines_in (Some (Ok effect)) = effect.lines
lines_in (Some (Err refusal)) = []

abbrev pub effect_in : Option Answer → Effect
effect_in None = record { state = blank 0 0; lines = [] }
effect_in (Some (Err refusal)) = record { state = blank 0 0; lines = [] }
effect_in (Some (Ok effect)) = effect

abbrev pub effect_at : Meaning → State → Step → Effect
effect_at m s step = effect_in (answer_at m s step)

abbrev pub next : State → Option Answer → State
next s None = s
next s (Some answer) = state_after s answer

abbrev pub with_call : Call → Option Answer → List Made → List Made
with_call call None before = before
with_call call (Some answer) before = made call answer ∷ before

abbrev pub told : Meaning → State → List Step → List (Option ℕ)
told m s [] = []
told m s (step ∷ steps) = said (answer_at m s step) ∷ told m (next s (answer_at m s step)) steps

abbrev pub lived : Meaning → State → List Step → State
lived m s [] = s
lived m s (step ∷ steps) = lived m (next s (answer_at m s step)) steps

abbrev pub calls : Meaning → State → List Step → List Made → List Made
calls m s [] before = before
calls m s (step ∷ steps) before =
    calls m (next s (answer_at m s step)) steps (with_call step.call (answer_at m s step) before)
