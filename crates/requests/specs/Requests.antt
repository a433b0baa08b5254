-- What a line asks for.
--   keyword_named  what the first word announces
--   said_after     what the words after it ask for
--   request_in     the whole; a line with no word, or that begins with #, asks for nothing
--   SaysWhenCut    a line that is too long says the same however it goes on
use Rattle.std.specs.Prelude.{◌≡◌, ℕ, Bool, cond, ◌||◌, List, length, Some, None, Ok, Err, codes, Option, Result, ◌==◌, nat_lt, slice_index}
use Rattle.std.specs.Str.{bytes_eq}
use Rattle.bounded_lines.specs.Lines.{longest_line, kept}
use Rattle.requests.specs.Words.{word, after_word}
use Rattle.requests.specs.Fields.{Fields, then_do, empty, fields_in, order_in, choice_in, index_in, record_in}
use Rattle.requests.specs.declared.request.Item.{Item}
use Rattle.requests.specs.declared.request.Item.TheVariants as item
use Rattle.requests.specs.declared.request.Enquiry.{Enquiry}
use Rattle.requests.specs.declared.request.Request.{Request}
use Rattle.requests.specs.declared.request.Request.TheVariants as asks
use Rattle.requests.specs.declared.unreadable.Unreadable.{Unreadable}
use Rattle.requests.specs.declared.unreadable.Unreadable.TheVariants.{TooLong, UnknownWord}
use Rattle.requests.specs.declared.reading.Keyword.{Keyword}
use Rattle.requests.specs.declared.reading.Keyword.TheVariants.{Link, Fibre, Sheet, Wages, Consumer, Price}

-- What the first word of a line announces.
abbrev pub keyword_named : List ℕ → Result Keyword Unreadable
keyword_named w =
    cond (bytes_eq w (codes "link")) (Ok Link)
    (cond (bytes_eq w (codes "fibre")) (Ok Fibre)
    (cond (bytes_eq w (codes "sheet")) (Ok Sheet)
    (cond (bytes_eq w (codes "wages")) (Ok Wages)
    (cond (bytes_eq w (codes "consumer")) (Ok Consumer)
    (cond (bytes_eq w (codes "price")) (Ok Price) (Err UnknownWord))))))

-- The price of an item, by the order that the words state.
abbrev pub enquiry_in : Item → Fields → Result Enquiry Unreadable
enquiry_in item f = then_do (order_in f) (λ order. Ok (record { item = item; order = order }))

-- What the words after each keyword ask for.
abbrev pub said_after : Keyword → Fields → Result Request Unreadable
said_after Link f = then_do (enquiry_in item.Link f) (λ enquiry. Ok (asks.Price enquiry))
said_after Fibre f = then_do (enquiry_in item.Fibre f) (λ enquiry. Ok (asks.Price enquiry))
said_after Sheet f = then_do (choice_in f) (λ sheet. Ok (asks.Sheet sheet))
said_after Wages f = then_do (index_in f) (λ row. Ok (asks.Wages row))
said_after Consumer f = then_do (index_in f) (λ row. Ok (asks.Consumer row))
said_after Price f = then_do (record_in f) (λ row. Ok (asks.Record row))

-- A line with no word, or whose first word begins with #.
abbrev pub comment : List ℕ → Bool
comment first = empty first || slice_index first 0 == 35

-- What a line of a lawful length asks for, if it asks for anything.
abbrev pub asked_in : List ℕ → Result (Option Request) Unreadable
asked_in bytes =
    cond (comment (word bytes)) (Ok None)
    (then_do (keyword_named (word bytes)) (λ announced.
    then_do (said_after announced (fields_in (after_word bytes))) (λ asked.
    Ok (Some asked))))

-- What a line asks for, if it is not too long and asks for anything.
abbrev pub request_in : List ℕ → Result (Option Request) Unreadable
request_in bytes = cond (nat_lt longest_line (length bytes)) (Err TooLong) (asked_in bytes)

-- What is kept of a line says what the line says.
abbrev pub SaysWhenCut : Type 0
SaysWhenCut = (line : List ℕ) → request_in (kept line) ≡ request_in line
