-- Words of a line and numbers.
--   word             the longest run of bytes that are no blanks, after the blanks in front
--   after_word       what follows it
--   number           one to nine decimal digits
--   amount           euros, a point and six decimals, in micro-euros that 32 bits hold
--   has_amount_form  the form of an amount, however large
use Rattle.std.specs.Prelude.{ℕ, ◌+◌, ◌-◌, ◌*◌, ◌^◌, Bool, cond, not, ◌&&◌, ◌||◌, List, [], ◌∷◌, length, take, drop, is_some, Some, None, Option, ◌==◌, nat_lt, slice_index}
use Rattle.std.specs.Option.{unwrap_or}
use Rattle.std.specs.List.{prefix_len, list_all}
use Rattle.calendar.specs.Days.{within}

-- A space, a tab or a carriage return.
abbrev pub blank : ℕ → Bool
blank b = b == 32 || (b == 9 || b == 13)

-- What is left of a line after the blanks in front.
abbrev pub after_blanks : List ℕ → List ℕ
after_blanks line = drop (prefix_len blank line) line

-- How far the first word goes.
abbrev pub word_length : List ℕ → ℕ
word_length line = prefix_len (λ b. not (blank b)) (after_blanks line)

-- The first word of a line, which is empty where only blanks are left.
unfoldable pub word : List ℕ → List ℕ
word line = take (word_length line) (after_blanks line)

-- What follows the first word.
unfoldable pub after_word : List ℕ → List ℕ
after_word line = drop (word_length line) (after_blanks line)

-- A byte from 0 to 9.
abbrev pub is_digit : ℕ → Bool
is_digit byte = within 48 byte 57

-- The value of a byte from 0 to 9.
abbrev pub digit : ℕ → Option ℕ
digit byte = cond (is_digit byte) (Some (byte - 48)) None

-- Further digits after a number so far.
abbrev pub read_on : ℕ → List ℕ → Option ℕ
read_on n [] = Some n
read_on n (byte ∷ bytes) =
    cond (is_some (digit byte)) (read_on (n * 10 + unwrap_or (digit byte) 0) bytes) None

-- One to nine digits, as the number that they write.
unfoldable pub number : List ℕ → Option ℕ
number word = cond (within 1 (length word) 9) (read_on 0 word) None

-- The length of a point and six decimals.
abbrev pub decimal_part : ℕ
decimal_part = 7

-- Micro-euros in a euro.
abbrev pub euro : ℕ
euro = 1000000

-- Euros and decimals, as micro-euros that 32 bits hold.
abbrev pub micros : Option ℕ → Option ℕ → Option ℕ
micros None decimals = None
micros (Some euros) None = None
micros (Some euros) (Some decimals) =
    cond (nat_lt (euros * euro + decimals) (2 ^ 32)) (Some (euros * euro + decimals)) None

-- Seven bytes at the end: the point and the decimals.
unfoldable pub amount : List ℕ → Option ℕ
amount word =
    let euros = length word - decimal_part in
    cond (nat_lt decimal_part (length word) && slice_index word euros == 46)
    (micros (number (take euros word)) (number (drop (euros + 1) word))) None

-- Digits, a point and six decimals, however many digits come before the point.
abbrev pub has_amount_form : List ℕ → Bool
has_amount_form word =
    let euros = length word - decimal_part in
    nat_lt decimal_part (length word)
    && (slice_index word euros == 46
    && (list_all is_digit (take euros word) && list_all is_digit (drop (euros + 1) word)))
