-- A block in which one byte is changed fails its check.
use Rattle.std.proofs.Common.{◌≡◌, ℕ, zero, suc, ◌+◌, ◌*◌, ◌/◌, ◌%◌, ◌<◌, ◌≤◌, true, eqb, List, [], ◌∷◌, length, get_or, take, set, fold, sym, ap, ◌∙◌, ⊎_elim, arith}
use native.Mathlib.Nat.{add-mul-mod_self_left, mod-add-div}
use Rattle.std.proofs.lemmas.List.{get_or-set_other, get_or-set_same, take-set-le}
use Rattle.std.proofs.lemmas.Bool.{and_parts, cases_Bool, cases_eq, cases_lt, eqb-true}
use Rattle.event_file.specs.Blocks.{check_of, passes, written_check}
use Rattle.event_file.specs.Laws.{ChangeIsFound}
use Rattle.event_file.proofs.Exact.{byte_at}

-- numbers that differ by multiples of 65,521 have one remainder
same_rest : (s t x y : ℕ) → s + 65521 * x ≡ t + 65521 * y → s % 65521 ≡ t % 65521
same_rest s t x y e =
    sym (add-mul-mod_self_left s 65521 x) ∙ ap (λ n. n % 65521) e ∙ add-mul-mod_self_left t 65521 y

-- 256 × 61,170 is 1 more than 239 × 65,521, so a factor 256 can be taken away
taken_away : (s t b : ℕ) → (s * 256 + b) % 65521 ≡ (t * 256 + b) % 65521 → s % 65521 ≡ t % 65521
taken_away s t b e =
    let p = (s * 256 + b) / 65521 in
    let q = (t * 256 + b) / 65521 in
    same_rest s t (239 * s + 61170 * q) (239 * t + 61170 * p) (omega (arith, mod-add-div (s * 256 + b) 65521, mod-add-div (t * 256 + b) 65521))

-- equal bytes at the end do not make different remainders equal
abbrev with_bytes : ℕ → List ℕ → ℕ
with_bytes s bs = fold (λ n b. n * 256 + b) s bs

followed : (bs : List ℕ) (s t : ℕ) → with_bytes s bs % 65521 ≡ with_bytes t bs % 65521 → s % 65521 ≡ t % 65521
followed [] s t e = e
followed (b ∷ bs) s t e = taken_away s t b (followed bs (s * 256 + b) (t * 256 + b) e)

last_byte : (s v x : ℕ) → v < 256 → x < 256 → (s * 256 + v) % 65521 ≡ (s * 256 + x) % 65521 → v ≡ x
last_byte s v x hv hx e = omega arith

-- a byte put in place of another changes the remainder, or is the same byte
put_same : (n : ℕ) (bs : List ℕ) (i v s : ℕ) → i < n → i < length bs → v < 256 → get_or bs i 0 < 256 → with_bytes s (take n (set bs i v)) % 65521 ≡ with_bytes s (take n bs) % 65521 → v ≡ get_or bs i 0
put_same zero bs i v s h k hv hx e = absurd (omega arith)
put_same (suc n) [] i v s h k hv hx e = absurd (omega arith)
put_same (suc n) (b ∷ bs) zero v s h k hv hx e = last_byte s v b hv hx (followed (take n bs) (s * 256 + v) (s * 256 + b) e)
put_same (suc n) (b ∷ bs) (suc i) v s h k hv hx e = put_same n bs i v (s * 256 + b) (omega arith) (omega arith) hv hx e

-- a block that passes carries its own check
pub carried : (b : List ℕ) → passes b ≡ true → check_of (take 510 b) ≡ written_check b
carried b h = eqb-true (check_of (take 510 b)) (written_check b) (and_parts (eqb (length b) 512) (eqb (check_of (take 510 b)) (written_check b)) h).1

pub whole : (b : List ℕ) → passes b ≡ true → length b ≡ 512
whole b h = eqb-true (length b) 512 (and_parts (eqb (length b) 512) (eqb (check_of (take 510 b)) (written_check b)) h).0

-- the place of the change: an entry's byte, or one of the check's two
module _ (b : List ℕ) (i v : ℕ) (hb : get_or b i 0 < 256) (hv : v < 256) (long : length b ≡ 512) (both : check_of (take 510 b) ≡ written_check b) (again : check_of (take 510 (set b i v)) ≡ written_check (set b i v)) where
  in_entries : i < 510 → v ≡ get_or b i 0
  in_entries h =
      let high = get_or-set_other b i 510 v 0 (omega arith) in
      let low = get_or-set_other b i 511 v 0 (omega arith) in
      let same : written_check (set b i v) ≡ written_check b = omega (arith, high, low) in
      put_same 510 b i v 0 h (omega arith) hv hb (again ∙ same ∙ sym both)

  in_check : 510 ≤ i → written_check (set b i v) ≡ written_check b
  in_check h = sym again ∙ ap check_of (take-set-le 510 b i v h) ∙ both

  -- the byte put at a place, read where the place is named
  put_at : (k : ℕ) → i ≡ k → i < 512 → get_or (set b i v) k 0 ≡ v
  put_at k e h = ap (λ n. get_or (set b i v) n 0) (sym e) ∙ get_or-set_same b i v 0 (omega arith)

  in_high : i ≡ 510 → v ≡ get_or b i 0
  in_high e =
      let high = put_at 510 e (omega arith) in
      let low = get_or-set_other b i 511 v 0 (omega arith) in
      omega (arith, in_check (omega arith), high, low, ap (λ n. get_or b n 0) e)

  in_low : i ≡ 511 → v ≡ get_or b i 0
  in_low e =
      let high = get_or-set_other b i 510 v 0 (omega arith) in
      let low = put_at 511 e (omega arith) in
      omega (arith, in_check (omega arith), high, low, ap (λ n. get_or b n 0) e)

  unchanged : i < 512 → v ≡ get_or b i 0
  unchanged h = ⊎_elim in_entries (λ past. ⊎_elim in_high (λ other. in_low (omega arith)) (cases_eq i 510)) (cases_lt i 510)

pub change_is_found : ChangeIsFound
change_is_found b i v bytes passed h hv other =
    ⊎_elim
    (λ yes_again. absurd (other (unchanged b i v (byte_at b bytes i) hv (whole b passed) (carried b passed) (carried (set b i v) yes_again) h)))
    (λ found. found)
    (cases_Bool (passes (set b i v)))
