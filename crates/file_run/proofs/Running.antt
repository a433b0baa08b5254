-- How far a run has come: what it has noted and what is left give the whole.
use Rattle.std.proofs.Common.{◌≡◌, ℕ, ◌+◌, ◌<◌, ◌≤◌, List, [], ◌∷◌, ◌++◌, length, drop, take, slice_get, Some, sym, refl, ap, ◌∙◌, append_assoc, append-nil, arith}
use Rattle.tariff.specs.Meaning.{Meaning}
use Rattle.event_file.specs.Reading.{Item}
use Rattle.event_file.specs.Telling.{file_tells, left_to_tell, tells}
use Rattle.book.specs.Runs.{lived}
use Rattle.book.specs.Zone.{State}
use Rattle.file_run.specs.Reports.{ShownNotice, notices, steps_told}
use Rattle.file_run.proofs.Noticing.{lived_on, notices_on, steps_joined}

-- what is left tells what its first tells, and then the rest
first_tells : (left : List Item) → left_to_tell left ≡ left_to_tell (take 1 left) ++ left_to_tell (drop 1 left)
first_tells [] = refl
first_tells (item ∷ rest) = ap (λ l. l ++ left_to_tell rest) (sym (append-nil (tells item)))

-- a step that gives something gives the first of what is left
pub one_left : (left : List Item) (item : Item) → Some item ≡ slice_get left 0 → take 1 left ≡ item ∷ []
one_left [] item is = cc
one_left (first ∷ rest) item is = cc

pub some_left : (left : List Item) (item : Item) → Some item ≡ slice_get left 0 → 0 < length left
some_left [] item is = absurd cc
some_left (first ∷ rest) item is = omega arith

fewer : (left : List Item) → 0 < length left → length (drop 1 left) + 1 ≡ length left
fewer [] h = absurd (omega arith)
fewer (item ∷ rest) h = omega arith

module _ (m : Meaning) (bs : List ℕ) (first : State) where
  -- with this left, a number of notices and room for some, in a state, with these notices seen
  pub record Sofar (left : List Item) (count room : ℕ) (s : State) (seen : List ShownNotice) : Type 0 where
    pub enough : count + length left ≤ room
    pub noted : seen ++ notices m s (left_to_tell left) ≡ notices m first (file_tells bs)
    pub led : lived m s (steps_told (left_to_tell left)) ≡ lived m first (steps_told (file_tells bs))

  -- a step that is not the last, with what it tells
  pub gone_on : (left rest : List Item) (count more room wide : ℕ) (s t : State) (seen told next : List ShownNotice) → Sofar left count room s seen → 0 < length left →
      more ≤ count + 1 → room ≤ wide → rest ≡ drop 1 left → t ≡ lived m s (steps_told (left_to_tell (take 1 left))) →
      told ≡ notices m s (left_to_tell (take 1 left)) → next ≡ seen ++ told → Sofar rest more wide t next
  gone_on left rest count more room wide s t seen told next so goes few still after leads tells adds =
      let step = left_to_tell (take 1 left) in
      let others = left_to_tell (drop 1 left) in
      let here = ap left_to_tell after in
      let added = adds ∙ ap (λ l. seen ++ l) tells in
      let splits = first_tells left in
      record {
        enough = omega (arith, so.enough, fewer left goes, ap length after);
        noted =
            (λ i. added i ++ notices m (leads i) (here i))
            ∙ append_assoc seen (notices m s step) (notices m (lived m s (steps_told step)) others)
            ∙ ap (λ l. seen ++ l) (sym (ap (notices m s) splits ∙ notices_on m s step others))
            ∙ so.noted;
        led =
            (λ i. lived m (leads i) (steps_told (here i)))
            ∙ sym (ap (λ l. lived m s (steps_told l)) splits ∙ ap (lived m s) (steps_joined step others) ∙ lived_on m s (steps_told step) (steps_told others))
            ∙ so.led;
      }

  -- at the end nothing is left
  pub ended : (left : List Item) (count room : ℕ) (s t : State) (seen : List ShownNotice) → Sofar left count room s seen → left ≡ [] →
      t ≡ lived m s (steps_told (left_to_tell (take 1 left))) →
      (seen ≡ notices m first (file_tells bs)) × (t ≡ lived m first (steps_told (file_tells bs)))
  ended left count room s t seen so none leads = (
    sym (append-nil seen) ∙ ap (λ l. seen ++ notices m s (left_to_tell l)) (sym none) ∙ so.noted,
    leads ∙ ap (λ l. lived m s (steps_told (left_to_tell (take 1 l)))) none ∙ ap (λ l. lived m s (steps_told (left_to_tell l))) (sym none) ∙ so.led,
  )
