-- What the thirty bytes of an entry tell.
--   Told      an event or a blank
--   is_blank  whether an entry is a blank: thirty bytes, all zero
--   told      what an entry tells, or the first reason why it tells nothing
--   shown     what the program says of an entry, as a plain value
use Rattle.std.specs.Prelude.{◌≡◌, ℕ, ◌+◌, ◌*◌, Bool, false, cond, not, ◌&&◌, ◌||◌, List, [], ◌∷◌, length, drop, Some, None, Ok, Err, Option, Result, MatchResult, ◌==◌, nat_lt, slice_index}
use Rattle.refusal.specs.declared.Refusal.{Refusal}
use Rattle.refusal.specs.declared.Refusal.TheVariants.{UnknownLetter, BlankRuleBroken, BadEntryContent}
use Rattle.refusal.specs.Checks.{first, unless, ◌⇒◌}
use Rattle.std.specs.List.{list_all}
use Rattle.event_file.specs.Format.{Shown, commitment, raise, opening, cabling, launch, label_stands}
use Rattle.event_file.specs.declared.event.FileEvent.{FileEvent}
use Rattle.event_file.specs.declared.event.FileEvent.TheVariants.{Commitment, Raise, Opening, Cabling, Launch}
use Rattle.event_file.specs.declared.entry.Letter.{Letter}
use Rattle.event_file.specs.declared.entry.Letter.TheVariants as letter
use Rattle.event_file.specs.declared.entry.Fields.{Fields}

pub data Told : Type 0 where
  event : Shown → Told
  blank : Told

-- Where the parts of an entry stand.
abbrev pub letter_in : List ℕ → ℕ
letter_in bs = slice_index bs 0

-- four bytes from a place on, high byte first
abbrev pub number_at : List ℕ → ℕ → ℕ
number_at bs i = slice_index bs i * 16777216 + slice_index bs (i + 1) * 65536 +
    slice_index bs (i + 2) * 256 + slice_index bs (i + 3)

abbrev pub form_in : List ℕ → ℕ
form_in bs = slice_index bs 13

abbrev pub label_in : List ℕ → List ℕ
label_in bs = drop 14 bs

-- The letters of events: E, A, P, S and L.
abbrev pub event_letter : ℕ → Bool
event_letter c = c == 69 || (c == 65 || (c == 80 || (c == 83 || c == 76)))

abbrev pub is_zero : ℕ → Bool
is_zero b = b == 0

abbrev pub is_blank : List ℕ → Bool
is_blank bs = length bs == 30 && list_all is_zero bs

-- The letter is that of an event, or the byte 0 of a blank.
abbrev pub unknown_letter : List ℕ → Bool
unknown_letter bs = not (letter_in bs == 0 || event_letter (letter_in bs))

-- A blank is all zero, and only blanks follow it in its block.
abbrev pub breaks_blank_rule : Bool → List ℕ → Bool
breaks_blank_rule after bs = cond (letter_in bs == 0) (not (is_blank bs)) after

-- The form is 0, or for S 0 or 1.
abbrev pub most_form : ℕ → ℕ
most_form c = cond (c == 83) 1 0

-- For L the last two numbers are 0.
abbrev pub filled_in_vain : ℕ → ℕ → ℕ → Bool
filled_in_vain c n a = c == 76 && not (n == 0 && a == 0)

-- The content is bad if the form, a number or the label is.
abbrev pub bad_fields : ℕ → ℕ → ℕ → ℕ → List ℕ → Bool
bad_fields c n a form l = nat_lt (most_form c) form ||
    (filled_in_vain c n a || not (label_stands l))

abbrev pub bad_content : List ℕ → Bool
bad_content bs = bad_fields (letter_in bs) (number_at bs 5) (number_at bs 9) (form_in bs)
    (label_in bs)

-- The event of a letter, its numbers, its form and its label.
abbrev pub event_of : ℕ → ℕ → ℕ → ℕ → ℕ → List ℕ → Shown
event_of c d n a form l =
    cond (c == 69) (commitment d n a l)
    (cond (c == 65) (raise d n a l)
    (cond (c == 80) (opening d n a l)
    (cond (c == 83) (cabling d n a (form == 1) l) (launch d l))))

abbrev pub event_in : List ℕ → Shown
event_in bs = event_of (letter_in bs) (number_at bs 1) (number_at bs 5) (number_at bs 9)
    (form_in bs) (label_in bs)

-- Why an entry with an event's letter is refused, where a blank stands before it in its block or
-- not.
abbrev pub event_refusal : Bool → List ℕ → Option Refusal
event_refusal after bs = first ((after ⇒ BlankRuleBroken) ∷ (bad_content bs ⇒ BadEntryContent) ∷ [])

-- What an entry tells, where a blank stands before it in its block or not: the first condition that
-- is met refuses it.
abbrev pub told : Bool → List ℕ → Result Told Refusal
told after bs =
    unless
    (first
    ((unknown_letter bs ⇒ UnknownLetter)
    ∷ (breaks_blank_rule after bs ⇒ BlankRuleBroken)
    ∷ ((not (letter_in bs == 0) && bad_content bs) ⇒ BadEntryContent)
    ∷ []))
    (cond (letter_in bs == 0) blank (event (event_in bs)))

-- The program's entry as a plain value: the label is what the borrowed part of the block holds.
abbrev pub shown_event : FileEvent → Shown
shown_event (Commitment d n a l) = commitment d n a l.now
shown_event (Raise d n a l) = raise d n a l.now
shown_event (Opening d n a l) = opening d n a l.now
shown_event (Cabling d n a t l) = cabling d n a t l.now
shown_event (Launch d l) = launch d l.now

-- No event is a blank.
abbrev pub shown : Option FileEvent → Told
shown (Some e) = event (shown_event e)
shown None = blank

abbrev pub shown_answer : Result (Option FileEvent) Refusal → Result Told Refusal
shown_answer (Ok e) = Ok (shown e)
shown_answer (Err x) = Err x

-- The byte of a letter.
abbrev pub letter_byte : Letter → ℕ
letter_byte letter.Commitment = 69
letter_byte letter.Raise = 65
letter_byte letter.Opening = 80
letter_byte letter.Cabling = 83
letter_byte letter.Launch = 76

-- The letter of a byte, or the refusal of a byte that is none.
abbrev pub LetterOf : ℕ → Result Letter Refusal → Type 0
LetterOf c r = MatchResult r (λ l. letter_byte l ≡ c)
    (λ x. (x ≡ UnknownLetter) × (event_letter c ≡ false))

-- Fields that are those of an entry.
pub record FieldsOf (bs : List ℕ) (f : Fields) : Type 0 where
  pub letter_is : letter_byte f.letter ≡ letter_in bs
  pub date_is : f.date ≡ number_at bs 1
  pub number_is : f.number ≡ number_at bs 5
  pub amount_is : f.amount ≡ number_at bs 9
  pub form_is : f.form ≡ form_in bs
  pub label_is : f.label.now ≡ label_in bs
