-- What passed checks say, and what a refused question leaves of an amount: where it is refused, the amount is 0 by its
-- definition too, once the dates are real and the tranches at most 20.
use Rattle.std.specs.Option.{unwrap_or}
use Rattle.std.specs.Result.{result_unwrap_or}
use Rattle.std.proofs.Common.{◌≡◌, ℕ, ◌*◌, ◌<◌, ◌≤◌, Bool, true, false, cond, not, ◌&&◌, leb, T, List, [], ◌∷◌, ◌++◌, Some, None, Ok, Err, Option, is_none, sym, refl, ap, subst, ⊎_elim, mul-le-mul, mul-le-mul_left, lt_of_mul-lt-mul_right, arith}
use Rattle.std.proofs.lemmas.Bool.{not-false, not-true, and_parts, and_cases, leb-true, leb-false}
use Rattle.refusal.specs.Checks.{Check, ◌⇒◌, first, unless}
use Rattle.refusal.specs.declared.Refusal.{Refusal}
use Rattle.refusal.specs.declared.Refusal.TheVariants.{NoDate, RateOutOfRange, NoPrice, NoCoefficient}
use Rattle.calendar.specs.Days.{is_date, within}
use Rattle.tariff.specs.Meaning.{Meaning, Lawful, Answered, CoefficientLimits}
use Rattle.tariff.specs.declared.kinds.Kind.{Kind}
use Rattle.tariff.specs.declared.kinds.Coefficient.{Coefficient}
use Rattle.tariff.specs.Bounds.{most_denominator, most_price}
use Rattle.unit_prices.specs.Limits.{most_unit_contribution}
use Rattle.unit_prices.specs.Prices.{price_at, coefficient_at, earlier, unit_price, unit_contribution}
use Rattle.unit_prices.specs.Refusals.{unit_price_checks, unit_contribution_checks}
use Rattle.unit_prices.proofs.Bounds.{price_most, coefficient_limits}

-- checks that pass pass one by one
first_passed : {A : Type 0} (b : Bool) (r : Refusal) (o : Option Refusal) (a x : A) → unless (cond b (Some r) o) a ≡ Ok x → (b ≡ false) × (unless o a ≡ Ok x)
first_passed true r o a x is = let zero_one : ◌≡◌ {A = ℕ} 0 1 = cc in absurd (omega arith)
first_passed false r o a x is = (refl, is)

none_left : {A : Type 0} (a x : A) → unless None a ≡ Ok x → a ≡ x
none_left a x is = cc

real_of : (d : ℕ) → not (is_date d) ≡ false → T (is_date d)
real_of d is = subst T (sym (not-false (is_date d) is)) tt

-- what the shared checks let through
pub record Through (m : Meaning) (kind : Kind) (installed date k p : ℕ) : Type 0 where
  pub real : T (is_date installed)
  pub today : T (is_date date)
  pub few : k ≤ 20
  pub priced : price_at m kind installed * k ≡ p

pub through : (m : Meaning) (kind : Kind) (installed date k p : ℕ) → unless (first (unit_contribution_checks m kind installed date k)) (price_at m kind installed * k) ≡ Ok p → Through m kind installed date k p
through m kind installed date k p is =
    let a : ℕ = price_at m kind installed * k in
    let no_price : Bool = is_none (m.price kind installed) in
    let bad : Bool = not (within 1 k 20) in
    let from_rate : Option Refusal = cond bad (Some RateOutOfRange) (cond no_price (Some NoPrice) None) in
    let one = first_passed (not (is_date installed)) NoDate (cond (not (is_date date)) (Some NoDate) from_rate) a p is in
    let two = first_passed (not (is_date date)) NoDate from_rate a p one.1 in
    let three = first_passed bad RateOutOfRange (cond no_price (Some NoPrice) None) a p two.1 in
    let four = first_passed no_price NoPrice None a p three.1 in
    record {
      real = real_of installed one.0;
      today = real_of date two.0;
      few = leb-true k 20 (and_parts (leb 1 k) (leb k 20) (not-false (within 1 k 20) three.0)).1;
      priced = none_left a p four.1;
    }

module _ (m : Meaning) (law : Lawful m) (kind : Kind) (installed date k p : ℕ) (is : unless (first (unit_contribution_checks m kind installed date k)) (price_at m kind installed * k) ≡ Ok p) where
  pub plain_fits : p ≤ most_unit_contribution
  plain_fits =
      let past = through m kind installed date k p is in
      let a : price_at m kind installed * k ≤ most_price * 20 = mul-le-mul (price_most m law kind installed past.real) past.few in
      let e = past.priced in omega arith

  pub found_limits : (c : Coefficient) → m.coefficient installed date ≡ Some c → CoefficientLimits c
  found_limits c found =
      let past = through m kind installed date k p is in
      subst (Answered CoefficientLimits) found (law.coefficients installed date past.real past.today)

-- a check that refuses goes before what is checked after it
refused_of : {A B : Type 0} (h : Bool) (r : Refusal) (o p : Option Refusal) (a : A) (b : B) (e : Refusal) → unless (cond h (Some r) o) a ≡ Err e → (unless o a ≡ Err e → Err e ≡ unless p b) → Err e ≡ unless (cond h (Some r) p) b
refused_of true r o p a b e is next = let same : r ≡ e = cc in ap Err (sym same)
refused_of false r o p a b e is next = next is

pub refused_before : {A B : Type 0} (ks ls : List Check) (a : A) (b : B) (e : Refusal) → unless (first ks) a ≡ Err e → Err e ≡ unless (first (ks ++ ls)) b
refused_before [] ls a b e is = let zero_one : ◌≡◌ {A = ℕ} 0 1 = cc in absurd (omega arith)
refused_before (k ∷ ks) ls a b e is = refused_of k.holds k.says (first ks) (first (ks ++ ls)) a b e is (refused_before ks ls a b e)

pub price_refused : (m : Meaning) (kind : Kind) (installed date k : ℕ) (e : Refusal) → unless (first (unit_contribution_checks m kind installed date k)) (price_at m kind installed * k) ≡ Err e → Err e ≡ unless (first (unit_price_checks m kind installed date k)) (unit_price m kind installed date k)
price_refused m kind installed date k e stops =
    refused_before (unit_contribution_checks m kind installed date k) ((earlier installed date && is_none (m.coefficient installed date) ⇒ NoCoefficient) ∷ []) (price_at m kind installed * k) (unit_price m kind installed date k) e stops

-- 0 where a question is refused, if the amount is 0 there
falls : (b : Bool) (r : Refusal) (o : Option Refusal) (u : ℕ) → (b ≡ true → u ≡ 0) → result_unwrap_or (unless o u) 0 ≡ u → result_unwrap_or (unless (cond b (Some r) o) u) 0 ≡ u
falls true r o u none rest = sym (none refl)
falls false r o u none rest = rest

clear : (b : Bool) → T b → not b ≡ true → ⊥
clear false x is = absurd x
clear true x is = let zero_one : ◌≡◌ {A = ℕ} 0 1 = cc in omega arith

none_priced : (o : Option ℕ) (k : ℕ) → is_none o ≡ true → unwrap_or o 0 * k ≡ 0
none_priced None k is = omega arith
none_priced (Some p) k is = let zero_one : ◌≡◌ {A = ℕ} 0 1 = cc in absurd (omega arith)

no_tranches : (p k : ℕ) → k ≤ 20 → not (within 1 k 20) ≡ true → p * k ≡ 0
no_tranches p k few is =
    ⊎_elim
    (λ low. let z : k < 1 = leb-false 1 k low in let e : p * k ≤ p * 0 = mul-le-mul_left p (omega arith) in omega arith)
    (λ high. let z : 20 < k = leb-false k 20 high in absurd (omega arith))
    (and_cases (leb 1 k) (leb k 20) (not-true (within 1 k 20) is))

-- nothing is rounded to nothing
nothing : (m : Meaning) → Lawful m → (n d : ℕ) → n ≡ 0 → 0 < d → d ≤ most_denominator → m.rounded n d ≡ 0
nothing m law n d is pos small =
    let near = law.near n d (omega arith) pos small in
    let over = near.over in
    let low : m.rounded n d < 1 = lt_of_mul-lt-mul_right d (omega arith) in omega arith

module _ (m : Meaning) (law : Lawful m) (kind : Kind) (installed date k : ℕ) (real : T (is_date installed)) (today : T (is_date date)) (few : k ≤ 20) where
  abbrev w : ℕ
  w = price_at m kind installed * k

  free : (b : Bool) (c : Coefficient) → CoefficientLimits c → w ≡ 0 → cond b (m.rounded (w * c.numerator) c.denominator) w ≡ 0
  free false c l is = is
  free true c l is =
      let z : w * c.numerator ≤ 0 * c.numerator = mul-le-mul (omega arith) (omega arith) in
      nothing m law (w * c.numerator) c.denominator (omega arith) l.some l.small

  free_price : w ≡ 0 → unit_price m kind installed date k ≡ 0
  free_price is = free (earlier installed date) (coefficient_at m installed date) (coefficient_limits m law installed date real today) is

  free_part : w ≡ 0 → unit_contribution m kind installed date k ≡ 0
  free_part is = go (earlier installed date)
    where
      go : (b : Bool) → cond b (m.rounded (w * m.contribution) 100) 0 ≡ 0
      go false = refl
      go true =
          let z : w * m.contribution ≤ 0 * m.contribution = mul-le-mul (omega arith) (omega arith) in
          nothing m law (w * m.contribution) 100 (omega arith) (omega arith) (omega arith)

  unrated_free : (b : Bool) (o : Option Coefficient) → (b && is_none o) ≡ true →
      cond b (m.rounded (w * (unwrap_or o (record { numerator = 0; denominator = 1 })).numerator) (unwrap_or o (record { numerator = 0; denominator = 1 })).denominator) w ≡ 0
  unrated_free false o is = let zero_one : ◌≡◌ {A = ℕ} 0 1 = cc in absurd (omega arith)
  unrated_free true None is = nothing m law (w * 0) 1 (omega arith) (omega arith) (omega arith)
  unrated_free true (Some c) is = let zero_one : ◌≡◌ {A = ℕ} 0 1 = cc in absurd (omega arith)

  pub price_taken : result_unwrap_or (unless (first (unit_price_checks m kind installed date k)) (unit_price m kind installed date k)) 0 ≡ unit_price m kind installed date k
  price_taken =
      let u : ℕ = unit_price m kind installed date k in
      let rate : Bool = earlier installed date && is_none (m.coefficient installed date) in
      let no_price : Bool = is_none (m.price kind installed) in
      let bad : Bool = not (within 1 k 20) in
      let from_rate : Option Refusal = cond bad (Some RateOutOfRange) (cond no_price (Some NoPrice) (cond rate (Some NoCoefficient) None)) in
      falls (not (is_date installed)) NoDate (cond (not (is_date date)) (Some NoDate) from_rate) u (λ is. absurd (clear (is_date installed) real is))
      (falls (not (is_date date)) NoDate from_rate u (λ is. absurd (clear (is_date date) today is))
      (falls bad RateOutOfRange (cond no_price (Some NoPrice) (cond rate (Some NoCoefficient) None)) u (λ is. free_price (no_tranches (price_at m kind installed) k few is))
      (falls no_price NoPrice (cond rate (Some NoCoefficient) None) u (λ is. free_price (none_priced (m.price kind installed) k is))
      (falls rate NoCoefficient None u (λ is. unrated_free (earlier installed date) (m.coefficient installed date) is) refl))))

  pub contribution_taken : result_unwrap_or (unless (first (unit_contribution_checks m kind installed date k)) (unit_contribution m kind installed date k)) 0 ≡ unit_contribution m kind installed date k
  contribution_taken =
      let u : ℕ = unit_contribution m kind installed date k in
      let no_price : Bool = is_none (m.price kind installed) in
      let bad : Bool = not (within 1 k 20) in
      let from_rate : Option Refusal = cond bad (Some RateOutOfRange) (cond no_price (Some NoPrice) None) in
      falls (not (is_date installed)) NoDate (cond (not (is_date date)) (Some NoDate) from_rate) u (λ is. absurd (clear (is_date installed) real is))
      (falls (not (is_date date)) NoDate from_rate u (λ is. absurd (clear (is_date date) today is))
      (falls bad RateOutOfRange (cond no_price (Some NoPrice) None) u (λ is. free_part (no_tranches (price_at m kind installed) k few is))
      (falls no_price NoPrice None u (λ is. free_part (none_priced (m.price kind installed) k is)) refl)))
