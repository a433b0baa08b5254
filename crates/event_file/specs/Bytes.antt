-- Bytes, and the numbers that they write.
--   Bytes      a list whose elements are all below 256
--   to_number  bytes read as one number to base 256, the first byte highest
use Rattle.std.specs.Prelude.{ℕ, ◌+◌, ◌*◌, ◌<◌, List, fold}
use Rattle.std.specs.List.{AllByRecursion}

abbrev pub Bytes : List ℕ → Type 0
Bytes bs = AllByRecursion (λ b. b < 256) bs

-- One more byte moves the number one place to the left and adds itself.
abbrev pub to_number : List ℕ → ℕ
to_number bs = fold (λ n b. n * 256 + b) 0 bs
