-- A life goes on by a call whose result is its answer.
use Rattle.std.proofs.Common.{◌≡◌, ℕ, List, [], length, Some, Ok, Err, Result, sym, ap, ◌∙◌}
use Rattle.std.specs.Option.{option_map}
use Rattle.refusal.specs.declared.Refusal.{Refusal}
use Rattle.tariff.specs.Meaning.{Meaning, Lawful}
use Rattle.book.specs.Zone.{Tables, State, Answer, launched, strip_after}
use Rattle.book.specs.Calls.{Call, raise}
use Rattle.book.specs.Life.{answer_to, goes_on}
use Rattle.book.specs.Promises.{LivesOn, IsAnswered, IsWritten, WholeLifeLaws, CutsFairly, answered, line_count}
use Rattle.book.specs.declared.lines.Line.{Line}
use Rattle.book.specs.declared.outcome.Refused.{Refused}
use Rattle.book.proofs.Accounts.{every_life_accounted}
use Rattle.book.proofs.Chain.{every_cut_fair}

pub lives_on : (m : Meaning) → Lawful m → (s : State) (places : ℕ) (call : Call) (defined answer : Answer) → answer_to m s places call ≡ Some defined → answer ≡ defined → LivesOn m s call answer
lives_on m law s places call defined answer takes is calls life =
    let more = goes_on {answer = answer} places call life (takes ∙ ap Some (sym is)) in
    (more, every_life_accounted m law _ _ more)

-- a call whose result is what its definition says is answered so
pub is_answered : (m : Meaning) (s : State) (call : Call) (before after : List Line) (count : ℕ) (answer said : Answer) →
    answer_to m s (length before) call ≡ Some said → IsWritten said before after count answer → IsAnswered m s call before after count answer
is_answered m s call before after count answer said takes is = record {
  given = takes ∙ ap Some (sym is.given);
  strip = ap (option_map (strip_after before)) takes ∙ ap Some (sym is.strip);
  count = ap (option_map line_count) takes ∙ ap Some (sym is.count);
  life = λ law. lives_on m law s (length before) call said answer takes is.given;
}

-- the same of an answer that is the same
pub is_written_along : {said other : Answer} {before after : List Line} {number : ℕ} {answer : Answer} →
    said ≡ other → IsWritten said before after number answer → IsWritten other before after number answer
is_written_along {before = before} same is = record {
  given = is.given ∙ same;
  strip = is.strip ∙ ap (strip_after before) same;
  count = is.count ∙ ap line_count same;
}

-- an answer without a line leaves an empty strip
pub without_line : (s : State) (said : Answer) → ◌≡◌ {A = Answer} (Ok (record { state = s; lines = [] })) said → IsWritten said [] [] 0 (Ok (record { state = s; lines = [] }))
without_line s said is = record { given = is; strip = ap (strip_after []) is; count = ap line_count is }

pub without_effect : (refusal : Refusal) (said : Answer) → ◌≡◌ {A = Answer} (Err refusal) said → IsWritten said [] [] 0 (Err refusal)
without_effect refusal said is = record { given = is; strip = ap (strip_after []) is; count = ap line_count is }

-- a call that is given no strip writes nothing
pub without_strip : {Z Y : Type 0} (state : Z → Tables → State) (t : Tables) (r : Result Z (Refused Y)) (said : Answer) →
    answered state t r ≡ said → IsWritten said [] [] 0 (answered state t r)
without_strip state t (Ok zone) said is = without_line (state zone t) said is
without_strip state t (Err back) said is = without_effect back.refusal said is

pub whole_life_laws : WholeLifeLaws
whole_life_laws = record { accounted = every_life_accounted; fair = every_cut_fair }

-- an accepted raise is fair however it is cut
pub cuts_fairly : (m : Meaning) → Lawful m → (s : State) (launch_date : ℕ) → s.phase ≡ launched launch_date → (places date operator rate : ℕ) (defined answer : Answer) → answer_to m s places (raise date operator rate) ≡ Some defined → answer ≡ defined → CutsFairly m s date operator rate answer
cuts_fairly m law s launch_date phase places date operator rate defined (Ok effect) takes is =
    λ calls life parts cut object. every_cut_fair m law calls s life launch_date phase date operator rate effect (record { places = places; answer = takes ∙ ap Some (sym is) }) parts cut object
cuts_fairly m law s launch_date phase places date operator rate defined (Err refusal) takes is = tt
