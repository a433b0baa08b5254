-- An amount of micro-euros less another, with its sign.
--   below_zero    whether it is negative
--   apart         how far the two are apart
--   signed_text   its text: a minus sign if it is negative, then the amount
--   SignTold      the text tells the difference
use Rattle.std.specs.Prelude.{◌≡◌, ℕ, ◌+◌, ◌-◌, ◌^◌, ◌<◌, Bool, cond, List, [], ◌++◌, codes, nat_lt}
use Rattle.money.specs.Text.{money_text}

-- A difference is below zero where more is taken away than there is.
abbrev pub below_zero : ℕ → ℕ → Bool
below_zero micros less = nat_lt micros less

-- How far two amounts are apart. One of the two summands is 0, since a difference stops at 0.
abbrev pub apart : ℕ → ℕ → ℕ
apart micros less = (micros - less) + (less - micros)

-- A minus sign if the amount is below zero, then the amount.
abbrev pub signed_text : Bool → ℕ → List ℕ
signed_text negative micros = cond negative (codes "-") [] ++ money_text micros

-- The text of an amount less another.
abbrev pub difference_text : ℕ → ℕ → List ℕ
difference_text micros less = signed_text (below_zero micros less) (apart micros less)

-- Two differences of 64-bit amounts with one text are the same: a less b, and c less d.
abbrev pub SignTold : Type 0
SignTold =
    (a b c d : ℕ) → a < 2 ^ 64 → b < 2 ^ 64 → c < 2 ^ 64 → d < 2 ^ 64
    → difference_text a b ≡ difference_text c d → a + d ≡ c + b
