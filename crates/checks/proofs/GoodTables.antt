-- What a table that is not bad is known to be.
use Rattle.std.proofs.Common.{◌≡◌, ℕ, ◌≤◌, Bool, true, false, ltb, List, [], ◌∷◌, length, take, refl, arith}
use Rattle.std.specs.List.{list_any}
use Rattle.std.proofs.lemmas.Bool.{ltb-false}
use Rattle.checks.specs.Tables.{one_of, repeats, is_bad_table}

-- no condition of a list holds
abbrev pub Fail : List Bool → Type 0
Fail [] = Unit {0}
Fail (b ∷ bs) = (b ≡ false) × Fail bs

pub all_fail : (bs : List Bool) → one_of bs ≡ false → Fail bs
all_fail [] h = tt
all_fail (true ∷ bs) h = let z : ◌≡◌ {A = ℕ} 0 1 = cc in absurd (omega arith)
all_fail (false ∷ bs) h = (refl, all_fail bs h)

pub record GoodTable {A : Type 0} (number : A → ℕ) (faulty : A → Bool) (counted : ℕ) (entries : List A) : Type 0 where
  pub long : counted ≤ length entries
  pub sound : list_any faulty (take counted entries) ≡ false
  pub once : repeats number (take counted entries) ≡ false

pub good_table : {A : Type 0} (number : A → ℕ) (faulty : A → Bool) (counted : ℕ) (entries : List A) →
    is_bad_table number faulty counted entries ≡ false → GoodTable number faulty counted entries
good_table number faulty counted entries none =
    let conditions = ltb (length entries) counted ∷ list_any faulty (take counted entries) ∷ repeats number (take counted entries) ∷ [] in
    let (short, (outside, (twice, end))) = all_fail conditions none in
    record { long = ltb-false (length entries) counted short; sound = outside; once = twice }
