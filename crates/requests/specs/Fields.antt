-- The words of a line after its first, and what they say.
--   Fields       the five words, those that the line leaves out being empty
--   order_in     an order: its date, metres, fibres and perhaps a service date
--   choice_in    the sheet to use: flat, indexed or dated
--   index_in     a row of an index: its date and number
--   record_in    a price record: its date and three prices
use Rattle.std.specs.Prelude.{ℕ, Bool, cond, not, ◌&&◌, List, length, Some, None, Ok, Err, codes, Option, Result, ◌==◌}
use Rattle.std.specs.Option.{ok_or}
use Rattle.std.specs.Str.{bytes_eq}
use Rattle.series.specs.declared.rows.Dated.{Dated}
use Rattle.series.specs.declared.limits.IndexNumber.{IndexNumber}
use Rattle.sheet_parts.specs.declared.given.Prices.{Prices}
use Rattle.links.specs.declared.order.Order.{Order}
use Rattle.requests.specs.Words.{word, after_word, number, amount, has_amount_form}
use Rattle.requests.specs.declared.request.Choice.{Choice}
use Rattle.requests.specs.declared.request.Choice.TheVariants as choice
use Rattle.requests.specs.declared.unreadable.Unreadable.{Unreadable}
use Rattle.requests.specs.declared.unreadable.Unreadable.TheVariants.{WordCount, NoNumber, NoAmount, LargeAmount, UnknownSheet}

-- An answer, and what comes after it unless it is a reason to stop.
abbrev pub then_do : {A B E : Type 0} → Result A E → (A → Result B E) → Result B E
then_do (Ok a) next = next a
then_do (Err e) next = Err e

-- There is no such word.
abbrev pub empty : List ℕ → Bool
empty w = length w == 0

-- The five words that follow the first, those that the line leaves out being empty.
pub record Fields : Type 0 where
  pub one : List ℕ
  pub two : List ℕ
  pub three : List ℕ
  pub four : List ℕ
  pub five : List ℕ

-- Five words as the fields of a line.
abbrev pub fields_of : List ℕ → List ℕ → List ℕ → List ℕ → List ℕ → Fields
fields_of one two three four five = record {
  one = one;
  two = two;
  three = three;
  four = four;
  five = five;
}

-- The five words at the head of what is left of a line.
abbrev pub fields_in : List ℕ → Fields
fields_in line =
    let second = after_word line in
    let third = after_word second in
    let fourth = after_word third in
    let fifth = after_word fourth in
    fields_of (word line) (word second) (word third) (word fourth) (word fifth)

-- The line has a word, and not the one after the last that it may have.
abbrev pub fills : List ℕ → List ℕ → Bool
fills last beyond = not (empty last) && empty beyond

-- A number, or that the word is none.
abbrev pub number_named : List ℕ → Result ℕ Unreadable
number_named w = ok_or (number w) NoNumber

-- An amount, or that the word has the form of one and is too large, or that it has not even the
-- form.
abbrev pub amount_named : List ℕ → Result ℕ Unreadable
amount_named w = ok_or (amount w) (cond (has_amount_form w) LargeAmount NoAmount)

-- The service date is known where a word gives it.
abbrev pub service_named : List ℕ → Result (Option ℕ) Unreadable
service_named w =
    cond (empty w) (Ok None) (then_do (number_named w) (λ service. Ok (Some service)))

-- A date, metres and fibres, and perhaps a service date.
abbrev pub order_in : Fields → Result Order Unreadable
order_in f =
    cond (fills f.three f.five)
    (then_do (number_named f.one) (λ ordered.
    then_do (number_named f.two) (λ metres.
    then_do (number_named f.three) (λ fibres.
    then_do (service_named f.four) (λ service.
    Ok (record { ordered = ordered; service = service; metres = metres; fibres = fibres }))))))
    (Err WordCount)

-- The sheet that a word names.
abbrev pub choice_named : List ℕ → Result Choice Unreadable
choice_named w =
    cond (bytes_eq w (codes "flat")) (Ok choice.Flat)
    (cond (bytes_eq w (codes "indexed")) (Ok choice.Indexed)
    (cond (bytes_eq w (codes "dated")) (Ok choice.Dated) (Err UnknownSheet)))

-- One word, which names a sheet.
abbrev pub choice_in : Fields → Result Choice Unreadable
choice_in f = cond (fills f.one f.two) (choice_named f.one) (Err WordCount)

-- A date and an index number.
abbrev pub index_in : Fields → Result (Dated IndexNumber) Unreadable
index_in f =
    cond (fills f.two f.three)
    (then_do (number_named f.one) (λ date.
    then_do (number_named f.two) (λ index.
    Ok (record { date = date; value = record { 0 = index } }))))
    (Err WordCount)

-- A date and three prices.
abbrev pub record_in : Fields → Result (Dated Prices) Unreadable
record_in f =
    cond (fills f.four f.five)
    (then_do (number_named f.one) (λ date.
    then_do (amount_named f.two) (λ covered.
    then_do (amount_named f.three) (λ connectable.
    then_do (amount_named f.four) (λ third.
    Ok (record {
      date = date;
      value = record { covered = covered; connectable = connectable; third = third };
    }))))))
    (Err WordCount)
