-- A raise that is cut: the tranches of the parts add up, and rounding misses by less than one in each.
use Rattle.std.proofs.Common.{◌≡◌, ℕ, suc, ◌+◌, ◌*◌, ◌<◌, ◌≤◌, Bool, true, false, cond, ◌&&◌, T, eqb, List, [], ◌∷◌, ◌++◌, length, Some, sym, refl, ap, ◌∙◌, mul_assoc, suc-mul, mul_comm, add-mul, mul-le-mul, lt_of_mul-lt-mul_right, mul-zero, zero-mul, mul-add, arith, find}
use Rattle.std.specs.List.{AllByRecursion}
use Rattle.std.proofs.lemmas.Bool.{eq-eqb}
use Rattle.calendar.specs.Days.{is_date}
use Rattle.tariff.specs.Meaning.{Meaning, Lawful, Near, CoefficientLimits}
use Rattle.tariff.specs.declared.kinds.Kind.{Kind}
use Rattle.tariff.specs.Bounds.{most_price, most_denominator, most_numerator, most_rounded}
use Rattle.book.specs.Lists.{total}
use Rattle.book.specs.Lines.{line, shows, unit_of, unit_shown}
use Rattle.book.specs.Members.{Addition}
use Rattle.unit_prices.specs.Prices.{price_at, coefficient_at, earlier, unit_price, unit_contribution}
use Rattle.book.specs.Billing.{billed, bill}
use Rattle.book.specs.Laws.{Apart}
use Rattle.book.specs.declared.entries.RegisterEntry.{RegisterEntry}
use Rattle.book.specs.declared.lines.Line.{Line}
use Rattle.book.specs.declared.lines.Nature.{Nature}
use Rattle.book.specs.declared.lines.Nature.TheVariants.{Charge, Contribution}
use Rattle.book.proofs.Totals.{total_same, total_zero, total_scaled}
use Rattle.unit_prices.proofs.Bounds.{price_most, limits_of}
use Rattle.book.proofs.Amounts.{Sized, real_day}

-- numbers a × k for each k of a list, each rounded over d, and the one of their sum
module _ (m : Meaning) (law : Lawful m) (a d : ℕ) (pos : 0 < d) (small : d ≤ most_denominator) where
  abbrev part : ℕ → ℕ
  part k = m.rounded (a * k) d

  sums : (ks : List ℕ) → a * total (λ k. k) ks ≤ most_rounded →
      (total part ks * d ≤ a * total (λ k. k) ks + length ks * d) × (a * total (λ k. k) ks ≤ total part ks * d + length ks * d)
  sums [] fits = simp (mul-zero, zero-mul) (omega arith)
  sums (k ∷ ks) fits =
      let e : a * (k + total (λ k. k) ks) ≡ a * k + a * total (λ k. k) ks = mul-add a k (total (λ k. k) ks) in
      let n : Near (a * k) d (part k) = law.near (a * k) d (omega arith) pos small in
      let r = sums ks (omega arith) in
      let o = n.over in let u = n.under in
      let p : (part k + total part ks) * d ≡ part k * d + total part ks * d = add-mul (part k) (total part ks) d in
      let q : suc (length ks) * d ≡ length ks * d + d = suc-mul (length ks) d in
      omega arith

  rounded_apart : (ks : List ℕ) → a * total (λ k. k) ks ≤ most_rounded → Apart (length ks) (part (total (λ k. k) ks)) (total part ks)
  rounded_apart ks fits =
      let s = sums ks fits in
      let n : Near (a * total (λ k. k) ks) d (part (total (λ k. k) ks)) = law.near (a * total (λ k. k) ks) d fits pos small in
      let o = n.over in let u = n.under in
      let R : ℕ = part (total (λ k. k) ks) in
      let S : ℕ = total part ks in
      let p : (S + suc (length ks)) * d ≡ S * d + suc (length ks) * d = add-mul S (suc (length ks)) d in
      let q : (R + suc (length ks)) * d ≡ R * d + suc (length ks) * d = add-mul R (suc (length ks)) d in
      let t : suc (length ks) * d ≡ length ks * d + d = suc-mul (length ks) d in
      let x : R < S + suc (length ks) = lt_of_mul-lt-mul_right d (omega arith) in
      let y : S < R + suc (length ks) = lt_of_mul-lt-mul_right d (omega arith) in
      record { over = omega arith; under = omega arith }

-- p k c as (p c) k
turned : (p k c : ℕ) → p * k * c ≡ p * c * k
turned p k c = mul_assoc p k c ∙ ap (λ x. p * x) (mul_comm k c) ∙ sym (mul_assoc p c k)

-- p k c over d rounded for each k of a list, and for their sum
scaled_apart : (m : Meaning) (law : Lawful m) (p c d : ℕ) → 0 < d → d ≤ most_denominator → (ks : List ℕ) → p * c * total (λ k. k) ks ≤ most_rounded →
    Apart (length ks) (m.rounded (p * total (λ k. k) ks * c) d) (total (λ k. m.rounded (p * k * c) d) ks)
scaled_apart m law p c d pos small ks fits =
    let h = rounded_apart m law (p * c) d pos small ks fits in
    let a : m.rounded (p * total (λ k. k) ks * c) d ≡ m.rounded (p * c * total (λ k. k) ks) d = ap (λ x. m.rounded x d) (turned p (total (λ k. k) ks) c) in
    let b = total_same (λ k. m.rounded (p * k * c) d) (λ k. m.rounded (p * c * k) d) (λ k. ap (λ x. m.rounded x d) (turned p k c)) ks in
    let o = h.over in let u = h.under in
    record { over = omega arith; under = omega arith }

module _ (m : Meaning) (law : Lawful m) (kind : Kind) (installed date : ℕ) (ks : List ℕ) (few : total (λ k. k) ks ≤ 20) (real : T (is_date installed)) (today : T (is_date date)) where
  low : price_at m kind installed ≤ most_price
  low = price_most m law kind installed real

  price_apart : Apart (length ks) (unit_price m kind installed date (total (λ k. k) ks)) (total (λ k. unit_price m kind installed date k) ks)
  price_apart = go (earlier installed date)
    where
      go : (b : Bool) → let c = coefficient_at m installed date in
          Apart (length ks) (cond b (m.rounded (price_at m kind installed * total (λ k. k) ks * c.numerator) c.denominator) (price_at m kind installed * total (λ k. k) ks))
          (total (λ k. cond b (m.rounded (price_at m kind installed * k * c.numerator) c.denominator) (price_at m kind installed * k)) ks)
      go false = let t = total_scaled (price_at m kind installed) (λ k. k) ks in record { over = omega arith; under = omega arith }
      go true =
          let c = coefficient_at m installed date in
          let f : CoefficientLimits c = limits_of (m.coefficient installed date) (law.coefficients installed date real today) in
          let x : price_at m kind installed * c.numerator ≤ most_price * most_numerator = mul-le-mul low f.most in
          let y : price_at m kind installed * c.numerator * total (λ k. k) ks ≤ most_price * most_numerator * 20 = mul-le-mul x few in
          scaled_apart m law (price_at m kind installed) c.numerator c.denominator f.some f.small ks (omega arith)

  contribution_apart : Apart (length ks) (unit_contribution m kind installed date (total (λ k. k) ks)) (total (λ k. unit_contribution m kind installed date k) ks)
  contribution_apart = go (earlier installed date)
    where
      go : (b : Bool) → Apart (length ks) (cond b (m.rounded (price_at m kind installed * total (λ k. k) ks * m.contribution) 100) 0)
          (total (λ k. cond b (m.rounded (price_at m kind installed * k * m.contribution) 100) 0) ks)
      go false = let t = total_zero ks in record { over = omega arith; under = omega arith }
      go true =
          let x : price_at m kind installed * m.contribution ≤ most_price * 100 = mul-le-mul low law.contributions in
          let y : price_at m kind installed * m.contribution * total (λ k. k) ks ≤ most_price * 100 * 20 = mul-le-mul x few in
          scaled_apart m law (price_at m kind installed) m.contribution 100 (omega arith) (omega arith) ks (omega arith)

-- the units that a bill shows for an object, object by object
module _ (m : Meaning) (a : Addition) (ob : ℕ) (o : RegisterEntry) (rest : List Line) where
  abbrev price : ℕ
  price = unit_price m o.kind o.installed a.date a.tranches

  abbrev levy : ℕ
  levy = unit_contribution m o.kind o.installed a.date a.tranches

  abbrev charge_line : Line
  charge_line = line Charge a.operator o.object price o.dwellings

  abbrev contribution_line : Line
  contribution_line = line Contribution a.operator o.object levy o.dwellings

  charge_step : unit_shown Charge a.operator ob (billed m a o ++ rest) ≡ cond (eqb o.object ob) price (unit_shown Charge a.operator ob rest)
  charge_step = go (eqb a.operator a.operator) (eqb o.object ob) (earlier o.installed a.date) (eq-eqb a.operator a.operator refl)
    where
      go : (same hit b : Bool) → same ≡ true →
          unit_of (cond (same && hit) (Some charge_line) (find (shows Charge a.operator ob) (cond b (contribution_line ∷ []) [] ++ rest))) ≡ cond hit price (unit_shown Charge a.operator ob rest)
      go true true b e = refl
      go true false true e = refl
      go true false false e = refl
      go false hit b e = let z : ◌≡◌ {A = ℕ} 0 1 = cc in absurd (omega arith)

  contribution_step : unit_shown Contribution a.operator ob (billed m a o ++ rest) ≡
      cond (earlier o.installed a.date) (cond (eqb o.object ob) levy (unit_shown Contribution a.operator ob rest)) (unit_shown Contribution a.operator ob rest)
  contribution_step = go (earlier o.installed a.date)
    where
      inner : (same hit : Bool) → same ≡ true → unit_of (cond (same && hit) (Some contribution_line) (find (shows Contribution a.operator ob) rest)) ≡ cond hit levy (unit_shown Contribution a.operator ob rest)
      inner true true e = refl
      inner true false e = refl
      inner false hit e = let z : ◌≡◌ {A = ℕ} 0 1 = cc in absurd (omega arith)

      go : (b : Bool) → unit_of (find (shows Contribution a.operator ob) (cond b (contribution_line ∷ []) [] ++ rest)) ≡
          cond b (cond (eqb o.object ob) levy (unit_shown Contribution a.operator ob rest)) (unit_shown Contribution a.operator ob rest)
      go true = inner (eqb a.operator a.operator) (eqb o.object ob) (eq-eqb a.operator a.operator refl)
      go false = refl

-- what bills of one day show for an object: the one of a sum of tranches, and those of its parts together
module _ (m : Meaning) (law : Lawful m) (op date index ob : ℕ) (ks : List ℕ) (few : total (λ k. k) ks ≤ 20) (today : T (is_date date)) where
  abbrev pub adding : ℕ → Addition
  adding k = record { operator = op; date = date; index = index; tranches = k }

  abbrev pub shown : Nature → List RegisterEntry → ℕ → ℕ
  shown n os k = unit_shown n op ob (bill m (adding k) os)

  abbrev all : ℕ
  all = total (λ k. k) ks

  pub charges_apart : (os : List RegisterEntry) → AllByRecursion Sized os → Apart (length ks) (shown Charge os (total (λ k. k) ks)) (total (shown Charge os) ks)
  charges_apart [] sized = let z = total_zero ks in record { over = omega arith; under = omega arith }
  charges_apart (o ∷ os) sized =
      let a = charge_step m (adding all) ob o (bill m (adding all) os) in
      let b = total_same (shown Charge (o ∷ os)) (λ k. cond (eqb o.object ob) (unit_price m o.kind o.installed date k) (shown Charge os k)) (λ k. charge_step m (adding k) ob o (bill m (adding k) os)) ks in
      let c = go (eqb o.object ob) (charges_apart os sized.1) in
      let x = c.over in let y = c.under in
      record { over = omega arith; under = omega arith }
    where
      go : (hit : Bool) → Apart (length ks) (shown Charge os (total (λ k. k) ks)) (total (shown Charge os) ks) →
          Apart (length ks) (cond hit (unit_price m o.kind o.installed date (total (λ k. k) ks)) (shown Charge os (total (λ k. k) ks))) (total (λ k. cond hit (unit_price m o.kind o.installed date k) (shown Charge os k)) ks)
      go true r = price_apart m law o.kind o.installed date ks few (real_day o sized.0) today
      go false r = r

  pub contributions_apart : (os : List RegisterEntry) → AllByRecursion Sized os → Apart (length ks) (shown Contribution os (total (λ k. k) ks)) (total (shown Contribution os) ks)
  contributions_apart [] sized = let z = total_zero ks in record { over = omega arith; under = omega arith }
  contributions_apart (o ∷ os) sized =
      let a = contribution_step m (adding all) ob o (bill m (adding all) os) in
      let b = total_same (shown Contribution (o ∷ os)) (λ k. cond (earlier o.installed date) (cond (eqb o.object ob) (unit_contribution m o.kind o.installed date k) (shown Contribution os k)) (shown Contribution os k)) (λ k. contribution_step m (adding k) ob o (bill m (adding k) os)) ks in
      let c = go (earlier o.installed date) (eqb o.object ob) (contributions_apart os sized.1) in
      let x = c.over in let y = c.under in
      record { over = omega arith; under = omega arith }
    where
      go : (b hit : Bool) → Apart (length ks) (shown Contribution os (total (λ k. k) ks)) (total (shown Contribution os) ks) →
          Apart (length ks) (cond b (cond hit (unit_contribution m o.kind o.installed date (total (λ k. k) ks)) (shown Contribution os (total (λ k. k) ks))) (shown Contribution os (total (λ k. k) ks)))
          (total (λ k. cond b (cond hit (unit_contribution m o.kind o.installed date k) (shown Contribution os k)) (shown Contribution os k)) ks)
      go true true r = contribution_apart m law o.kind o.installed date ks few (real_day o sized.0) today
      go true false r = r
      go false hit r = r
