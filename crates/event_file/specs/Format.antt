-- The format of an entry: what an event is, and the thirty bytes that write it.
--   Shown         an event as a plain value, its label a list of bytes
--   Within        the limits of an event that can be written
--   entry_bytes   the bytes of an event
--   Writes        bytes that write an event: reading an event is this relation, from the bytes to
--                 the event
--   label_stands  whether bytes can be a label: sixteen, each from 32 to 126
use Rattle.std.specs.Prelude.{◌≡◌, ℕ, ◌/◌, ◌%◌, ◌^◌, ◌<◌, Bool, true, cond, ◌&&◌, List, [], ◌∷◌, ◌++◌, length, ◌==◌, nat_le}
use Rattle.std.specs.List.{list_all}

pub data Shown : Type 0 where
  -- date, operator, rate, label
  commitment : ℕ → ℕ → ℕ → List ℕ → Shown
  -- date, operator, new rate, label
  raise : ℕ → ℕ → ℕ → List ℕ → Shown
  -- date, object, dwellings, label
  opening : ℕ → ℕ → ℕ → List ℕ → Shown
  -- date, object, dwellings, whether a third party cables, label
  cabling : ℕ → ℕ → ℕ → Bool → List ℕ → Shown
  -- date, label
  launch : ℕ → List ℕ → Shown

abbrev pub label_of : Shown → List ℕ
label_of (commitment d n a l) = l
label_of (raise d n a l) = l
label_of (opening d n a l) = l
label_of (cabling d n a t l) = l
label_of (launch d l) = l

-- A byte from 32 to 126 prints as a character.
abbrev pub printable : ℕ → Bool
printable b = nat_le 32 b && nat_le b 126

abbrev pub label_stands : List ℕ → Bool
label_stands l = length l == 16 && list_all printable l

-- Every number has 32 bits, and the label is one that can stand.
abbrev pub Within : Shown → Type 0
Within (commitment d n a l) = (d < 2 ^ 32) × (n < 2 ^ 32) × (a < 2 ^ 32) × (label_stands l ≡ true)
Within (raise d n a l) = (d < 2 ^ 32) × (n < 2 ^ 32) × (a < 2 ^ 32) × (label_stands l ≡ true)
Within (opening d n a l) = (d < 2 ^ 32) × (n < 2 ^ 32) × (a < 2 ^ 32) × (label_stands l ≡ true)
Within (cabling d n a t l) = (d < 2 ^ 32) × (n < 2 ^ 32) × (a < 2 ^ 32) × (label_stands l ≡ true)
Within (launch d l) = (d < 2 ^ 32) × (label_stands l ≡ true)

-- A number of 32 bits in four bytes, high byte first.
abbrev pub four_bytes : ℕ → List ℕ
four_bytes n = n / 16777216 % 256 ∷ n / 65536 % 256 ∷ n / 256 % 256 ∷ n % 256 ∷ []

-- An entry in its order: letter, three numbers, form, label.
abbrev pub laid : ℕ → ℕ → ℕ → ℕ → ℕ → List ℕ → List ℕ
laid letter d n a form l = letter ∷ (four_bytes d ++ (four_bytes n ++ (four_bytes a ++ (form ∷ l))))

-- The letters are E 69, A 65, P 80, S 83 and L 76. The form is 1 for third-party cabling, else 0.
-- A launch has only a date: its other two numbers are 0.
abbrev pub entry_bytes : Shown → List ℕ
entry_bytes (commitment d n a l) = laid 69 d n a 0 l
entry_bytes (raise d n a l) = laid 65 d n a 0 l
entry_bytes (opening d n a l) = laid 80 d n a 0 l
entry_bytes (cabling d n a t l) = laid 83 d n a (cond t 1 0) l
entry_bytes (launch d l) = laid 76 d 0 0 0 l

-- The event keeps the limits, and the bytes are exactly its own.
abbrev pub Writes : List ℕ → Shown → Type 0
Writes bs e = Within e × (bs ≡ entry_bytes e)
