-- A sheet of small prices whose rounding shows how far the limits of both laws reach.
use Rattle.std.specs.Prelude.{ℕ, ◌+◌, ◌-◌, ◌/◌, cond, Some, nat_lt}
use Rattle.tariff.specs.Meaning.{Meaning}

-- Down below one, up above it.
abbrev pub coarse_rounded : ℕ → ℕ → ℕ
coarse_rounded n d = cond (nat_lt n d) 0 ((n + (d - 1)) / d)

-- A tranche costs 9 micro-euros, a tenth of it later; a tenth of it goes to the earlier operators;
-- every year weighs 1.
abbrev pub coarse : Meaning
coarse = record {
  price = λ kind installed. Some 9;
  coefficient = λ installed receipt. Some (record { numerator = 1; denominator = 10 });
  contribution = 10;
  weight = λ index. 1;
  rounded = coarse_rounded;
}
