-- An entry that begins with an event's letter is refused for its place or its content, or tells its event.
use Rattle.std.proofs.Common.{◌≡◌, ℕ, ◌≤◌, Bool, List, ◌∷◌, length, get_or, Some, None, Ok, Err, sym, refl, ap, ◌∙◌, arith}
use Rattle.std.specs.List.{between}
use Rattle.std.proofs.lemmas.List.{drop_more}
use Rattle.std.proofs.lemmas.Slice.{between_to_end}
use Rattle.refusal.specs.declared.Refusal.{Refusal}
use Rattle.refusal.specs.Checks.{unless}
use Rattle.event_file.specs.Format.{Shown}
use Rattle.event_file.specs.Entries.{event, event_in, event_refusal, letter_byte, told}
use Rattle.event_file.specs.declared.entry.Letter.{Letter}
use Rattle.event_file.specs.declared.entry.Letter.TheVariants as letter

told_known : (l : Letter) (rest : List ℕ) (after : Bool) → unless (event_refusal after (letter_byte l ∷ rest)) (event (event_in (letter_byte l ∷ rest))) ≡ told after (letter_byte l ∷ rest)
told_known letter.Commitment rest after = refl
told_known letter.Raise rest after = refl
told_known letter.Opening rest after = refl
told_known letter.Cabling rest after = refl
told_known letter.Launch rest after = refl

-- the first byte and the bytes after it are the entry
module _ (bs : List ℕ) (l : Letter) (long : 1 ≤ length bs) (is : letter_byte l ≡ get_or bs 0 0) (after : Bool) where
  abbrev whole : List ℕ
  whole = letter_byte l ∷ between 1 (length bs) bs

  same : whole ≡ bs
  same =
      ap (λ c. c ∷ between 1 (length bs) bs) is
      ∙ ap (λ t. get_or bs 0 0 ∷ t) (between_to_end bs 1 (length bs) (omega arith))
      ∙ sym (drop_more bs 0 0 (omega arith))

  known : unless (event_refusal after whole) (event (event_in whole)) ≡ told after bs
  known = told_known l (between 1 (length bs) bs) after ∙ ap (told after) same

  pub told_refused : (x : Refusal) → event_refusal after whole ≡ Some x → Err x ≡ told after bs
  told_refused x h = sym (ap (λ r. unless r (event (event_in whole))) h) ∙ known

  pub told_event : (e : Shown) → event_refusal after whole ≡ None → e ≡ event_in whole → Ok (event e) ≡ told after bs
  told_event e h same_event =
      ap (λ t. Ok (event t)) same_event ∙ sym (ap (λ r. unless r (event (event_in whole))) h) ∙ known
