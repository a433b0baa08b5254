-- Which remainders the numbers of a list leave: a number whose remainder is not among them is not in the list.
use Rattle.std.proofs.Common.{◌≡◌, ℕ, zero, suc, ◌+◌, ◌-◌, ◌<◌, ◌≤◌, ◌*◌, ◌%◌, ◌^◌, bit_or, one-mul, Bool, true, false, ◌||◌, eqb, List, [], ◌∷◌, length, get_or, set, take, drop, sym, refl, ap, ◌∙◌, subst, ⊎_elim, arith}
use Rattle.std.specs.Int.{IsBitSet}
use Rattle.std.specs.List.{AllByRecursion}
use Rattle.std.proofs.lemmas.Nat.{and_or_self, and_or_apart, pow_apart, pow_pos}
use Rattle.std.proofs.Math.Nat.{mod-eq_of_lt}
use Rattle.std.proofs.Math.Pow.{pow-lt}
use Rattle.std.proofs.lemmas.List.{get_or-set_same, get_or-set_other, at_drop_more, take_all, length-drop}
use Rattle.std.proofs.lemmas.Bool.{ne_eqb}
use Rattle.std.proofs.lemmas.Bool.Decides.{eqb_tells}
use Rattle.checks.specs.Tables.{has_number, repeats}

module _ {A : Type 0} (number : A → ℕ) (divisor : ℕ) where
  -- the remainder of each number is noted, by what tells that one is
  abbrev pub Noted : (ℕ → Type 0) → List A → Type 0
  Noted IsNoted xs = AllByRecursion (λ x. IsNoted (number x % divisor)) xs

  pub not_noted : (IsNoted : ℕ → Type 0) (n : ℕ) (xs : List A) → (IsNoted (n % divisor) → ⊥) → Noted IsNoted xs → has_number number n xs ≡ false
  not_noted IsNoted n [] none all = refl
  not_noted IsNoted n (x ∷ xs) none all =
      let other : eqb (number x) n ≡ false = ne_eqb (number x) n (λ same. none (subst (λ k. IsNoted (k % divisor)) same all.0)) in
      ap (λ b. b || has_number number n xs) other ∙ not_noted IsNoted n xs none all.1

  all_still : (IsNoted Then : ℕ → Type 0) → ((r : ℕ) → IsNoted r → Then r) → (xs : List A) → Noted IsNoted xs → Noted Then xs
  all_still IsNoted Then still [] all = tt
  all_still IsNoted Then still (x ∷ xs) all = (still (number x % divisor) all.0, all_still IsNoted Then still xs all.1)

  -- one entry more, from the last one on: where its number is not in what follows it
  module _ (xs : List A) (p : ℕ) (x : A) (some : 0 < p) (inside : p ≤ length xs) (is : x ≡ get_or xs (p - 1) x) where
    after : drop p xs ≡ drop ((p - 1) + 1) xs
    after = ap (λ k. drop k xs) (omega arith)

    -- what follows it, as the code cuts it out
    pub following : take (length xs - ((p - 1) + 1)) (drop ((p - 1) + 1) xs) ≡ drop p xs
    following = take_all _ _ (omega (arith, length-drop ((p - 1) + 1) xs)) ∙ sym after

    here : drop (p - 1) xs ≡ x ∷ drop p xs
    here =
        at_drop_more (λ ys. ys) xs (p - 1) x (omega arith) ∙
        (λ i. sym is i ∷ sym after i)

    pub found : has_number number (number x) (drop p xs) ≡ true → repeats number xs ≡ true
    found there = later (p - 1) xs (ap (repeats number) here ∙ ap (λ b. b || repeats number (drop p xs)) there)
      where
        or_true : (b : Bool) → (b || true) ≡ true
        or_true true = refl
        or_true false = refl

        later : (k : ℕ) (ys : List A) → repeats number (drop k ys) ≡ true → repeats number ys ≡ true
        later zero ys twice = twice
        later (suc k) [] twice = twice
        later (suc k) (y ∷ ys) twice = ap (λ b. has_number number (number y) ys || b) (later k ys twice) ∙ or_true _

    pub one_more : (IsNoted Then : ℕ → Type 0) → ((r : ℕ) → IsNoted r → Then r) → (n : ℕ) → n ≡ number x → Then (n % divisor) →
        has_number number n (drop p xs) ≡ false → repeats number (drop p xs) ≡ false → Noted IsNoted (drop p xs) →
        (repeats number (drop (p - 1) xs) ≡ false) × Noted Then (drop (p - 1) xs)
    one_more IsNoted Then still n same now none once noted =
        let none_here = ap (λ k. has_number number k (drop p xs)) (sym same) ∙ none in (
          ap (repeats number) here ∙ ap (λ b. b || repeats number (drop p xs)) none_here ∙ once,
          subst (Noted Then) (sym here) (subst (λ k. Then (k % divisor)) same now, all_still IsNoted Then still (drop p xs) noted),
        )

-- noted in a row of flags
abbrev pub IsFlagged : List Bool → ℕ → Type 0
IsFlagged flags r = get_or flags r false ≡ true

pub flagged_still : (flags : List Bool) (r s : ℕ) → r < length flags → IsFlagged flags s → IsFlagged (set flags r true) s
flagged_still flags r s below flagged = ⊎_elim
    (λ same. ap (λ k. get_or (set flags r true) k false) same.1 ∙ get_or-set_same flags r true false below)
    (λ other. get_or-set_other flags r s true false other.1 ∙ flagged)
    (eqb_tells s r)

-- noted in the bits of a number
pub bit_now : (bits r : ℕ) → IsBitSet (bit_or bits (2 ^ r)) r
bit_now bits r = λ none. let some = pow_pos r in omega (arith, none, and_or_self (2 ^ r) bits, some)

pub bit_still : (bits r s : ℕ) → IsBitSet bits s → IsBitSet (bit_or bits (2 ^ r)) s
bit_still bits r s set = ⊎_elim
    (λ same. subst (IsBitSet (bit_or bits (2 ^ r))) (sym same.1) (bit_now bits r))
    (λ other. λ none. set (sym (and_or_apart (2 ^ s) bits (2 ^ r) (pow_apart r s (λ e. other.1 (sym e)))) ∙ none))
    (eqb_tells s r)

-- the bit of a remainder by 64, as the code makes it
pub bit_is : (r : ℕ) → r < 64 → 1 * 2 ^ r % 18446744073709551616 ≡ 2 ^ r
bit_is r within = ap (λ b. b % 18446744073709551616) (one-mul (2 ^ r)) ∙ mod-eq_of_lt (pow-lt within)
