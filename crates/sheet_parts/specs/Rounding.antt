-- Rounding to whole micro-euros, the sixth decimal of a euro, by the decimal that follows.
--   seventh_decimal  that decimal
--   five_down        up only if it exceeds 5, whatever follows it
--   five_up          up if it is 5 or more
use Rattle.std.specs.Prelude.{ℕ, ◌+◌, ◌*◌, ◌/◌, ◌%◌, Bool, cond, nat_le, nat_lt}

-- The first decimal of a fraction of micro-euros.
abbrev pub seventh_decimal : ℕ → ℕ → ℕ
seventh_decimal n d = n % d * 10 / d

-- The next whole number where the seventh decimal passes a test, else the last one.
abbrev pub up_if : (ℕ → Bool) → ℕ → ℕ → ℕ
up_if test n d = cond (test (seventh_decimal n d)) (n / d + 1) (n / d)

abbrev pub five_down : ℕ → ℕ → ℕ
five_down = up_if (λ decimal. nat_lt 5 decimal)

abbrev pub five_up : ℕ → ℕ → ℕ
five_up = up_if (λ decimal. nat_le 5 decimal)
