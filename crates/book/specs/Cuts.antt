-- A raise cut into several on one day.
--   Accepts, Refuses   a call that a state accepts with some strip, or refuses
--   Between            the calls that may be accepted between the raises of a cut
--   Cut                the raises of a cut, by the lines that each writes
use Rattle.std.specs.Prelude.{◌≡◌, ℕ, List, [], ◌∷◌, Some, Ok, Err}
use Rattle.refusal.specs.declared.Refusal.{Refusal}
use Rattle.tariff.specs.Meaning.{Meaning}
use Rattle.book.specs.Zone.{State, Effect}
use Rattle.book.specs.Calls.{Call, commitment, raise, launch, opening, cabling, share_out}
use Rattle.book.specs.Life.{answer_to}
use Rattle.book.specs.declared.lines.Line.{Line}

pub record Accepts (m : Meaning) (s : State) (call : Call) (effect : Effect) : Type 0 where
  pub places : ℕ
  pub answer : answer_to m s places call ≡ Some (Ok effect)

pub record Refuses (m : Meaning) (s : State) (call : Call) : Type 0 where
  pub places : ℕ
  pub refusal : Refusal
  pub answer : answer_to m s places call ≡ Some (Err refusal)

-- Only share-outs are accepted between the raises.
abbrev pub Between : Call → Type 0
Between (commitment date operator rate) = ⊥
Between (raise date operator rate) = ⊥
Between (launch date) = ⊥
Between (opening date object dwellings) = ⊥
Between (cabling date object third dwellings) = ⊥
Between share_out = Unit {0}

-- Accepted raises of one day by one operator, the last to a rate; refused calls may stand anywhere.
pub data Cut (m : Meaning) (date operator rate : ℕ) : State → List (List Line) → Type 0 where
  ends : {s : State} {effect : Effect} →
      Accepts m s (raise date operator rate) effect → Cut m date operator rate s (effect.lines ∷ [])
  raised : {s : State} {effect : Effect} {rest : List (List Line)} (to : ℕ) →
      Accepts m s (raise date operator to) effect → Cut m date operator rate effect.state rest →
      Cut m date operator rate s (effect.lines ∷ rest)
  passed : {s : State} {effect : Effect} {rest : List (List Line)} (call : Call) → Between call →
      Accepts m s call effect → Cut m date operator rate effect.state rest →
      Cut m date operator rate s rest
  stayed : {s : State} {rest : List (List Line)} (call : Call) →
      Refuses m s call → Cut m date operator rate s rest → Cut m date operator rate s rest
