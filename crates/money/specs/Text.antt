-- The text of an amount of micro-euros: euros, a point and six decimals.
--   money_text  the text
--   NoLoss      two amounts with one text are one amount
use Rattle.std.specs.Prelude.{◌≡◌, ℕ, ◌/◌, ◌%◌, ◌^◌, ◌<◌, List, ◌++◌, codes, decimal}

-- Euros, a point, and six decimals digit by digit.
abbrev pub money_text : ℕ → List ℕ
money_text n =
    decimal (n / 1000000) ++ (codes "." ++
    (decimal (n / 100000 % 10) ++ (decimal (n / 10000 % 10) ++ (decimal (n / 1000 % 10) ++
    (decimal (n / 100 % 10) ++ (decimal (n / 10 % 10) ++ decimal (n % 10)))))))

-- The text of a 64-bit amount tells it from every other.
abbrev pub NoLoss : Type 0
NoLoss =
    (m n : ℕ) → m < 2 ^ 64 → n < 2 ^ 64 → money_text m ≡ money_text n → m ≡ n
