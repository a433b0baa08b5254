-- The notices of what a file tells, part by part.
use Rattle.std.proofs.Common.{◌≡◌, ℕ, List, [], ◌∷◌, ◌++◌, Some, sym, refl, ap, ◌∙◌, append_assoc}
use Rattle.refusal.specs.declared.Refusal.{Refusal}
use Rattle.tariff.specs.Meaning.{Meaning}
use Rattle.event_file.specs.Format.{Shown}
use Rattle.event_file.specs.Telling.{Telling, told_event, told_fault}
use Rattle.book.specs.Zone.{State}
use Rattle.book.specs.Runs.{Step, answer_at, next, lived}
use Rattle.file_run.specs.Taking.{call_of, refusal_to, steps_for}
use Rattle.file_run.specs.Reports.{bare, labelled, notice_of, notices, steps_told}

-- an event that is refused has one notice
pub refused_notice : (m : Meaning) (s : State) (block entry : ℕ) (e : Shown) (refusal : Refusal) → refusal_to m s (call_of e) ≡ Some refusal →
    labelled block entry e refusal ∷ [] ≡ notices m s (told_event block entry e ∷ [])
refused_notice m s block entry e refusal is = ap (λ o. notice_of block entry e o ++ []) (sym is)

-- steps go on from where others led
pub lived_on : (m : Meaning) (s : State) (xs ys : List Step) → lived m s (xs ++ ys) ≡ lived m (lived m s xs) ys
lived_on m s [] ys = refl
lived_on m s (x ∷ xs) ys = lived_on m (next s (answer_at m s x)) xs ys

pub steps_joined : (xs ys : List Telling) → steps_told (xs ++ ys) ≡ steps_told xs ++ steps_told ys
steps_joined [] ys = refl
steps_joined (told_event block entry e ∷ xs) ys = ap (λ l. steps_for (call_of e) ++ l) (steps_joined xs ys)
steps_joined (told_fault fault ∷ xs) ys = steps_joined xs ys

-- so do the notices
pub notices_on : (m : Meaning) (s : State) (xs ys : List Telling) → notices m s (xs ++ ys) ≡ notices m s xs ++ notices m (lived m s (steps_told xs)) ys
notices_on m s [] ys = refl
notices_on m s (told_event block entry e ∷ xs) ys =
    ap (λ l. notice_of block entry e (refusal_to m s (call_of e)) ++ l) (notices_on m (lived m s (steps_for (call_of e))) xs ys)
    ∙ sym (append_assoc (notice_of block entry e (refusal_to m s (call_of e))) _ _)
notices_on m s (told_fault fault ∷ xs) ys = ap (λ l. bare fault ∷ l) (notices_on m s xs ys)
