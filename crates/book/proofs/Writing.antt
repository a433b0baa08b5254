-- Lines written one after the other from the start of a strip.
--   put       a strip after lines were written from a place on
--   Writing   what is left to write gives, from the next place on, all that is to be written
use Rattle.std.proofs.Common.{◌≡◌, ℕ, ◌+◌, ◌<◌, ◌≤◌, List, [], ◌∷◌, ◌++◌, length, take, drop, set, sym, refl, ap, ◌∙◌, add-zero, zero-add, arith}
use Rattle.std.proofs.lemmas.List.{append_assoc, length-append, length-set, take-append-drop, take_more_set, drop-set-lt}
use Rattle.book.specs.Lists.{written}

abbrev pub put : {A : Type 0} → List A → ℕ → List A → List A
put strip n [] = strip
put strip n (l ∷ ls) = put (set strip n l) (n + 1) ls

module _ {A : Type 0} where
  put_append : (strip : List A) (n : ℕ) (xs ys : List A) → put strip n (xs ++ ys) ≡ put (put strip n xs) (n + length xs) ys
  put_append strip n [] ys = ap (λ m. put strip m ys) (sym (add-zero n))
  put_append strip n (x ∷ xs) ys = put_append (set strip n x) (n + 1) xs ys ∙ ap (λ m. put (put (set strip n x) (n + 1) xs) m ys) (omega arith)

  -- what `put` comes to, where there is room
  put_is : (strip : List A) (n : ℕ) (ls : List A) → n + length ls ≤ length strip → put strip n ls ≡ take n strip ++ (ls ++ drop (n + length ls) strip)
  put_is strip n [] h = sym (take-append-drop n strip) ∙ ap (λ m. take n strip ++ drop m strip) (sym (add-zero n))
  put_is strip n (l ∷ ls) h =
      let short : n < length strip = omega arith in
      put_is (set strip n l) (n + 1) ls (simp length-set (omega arith)) ∙
      (λ k. take_more_set strip n l short k ++ (ls ++ drop-set-lt (n + 1 + length ls) strip n l (omega arith) k)) ∙
      append_assoc (take n strip) (l ∷ []) (ls ++ drop (n + 1 + length ls) strip) ∙
      ap (λ m. take n strip ++ (l ∷ (ls ++ drop m strip))) (omega arith)

  put_all : (strip ls : List A) → length ls ≤ length strip → put strip 0 ls ≡ written ls strip
  put_all strip ls h = put_is strip 0 ls (omega arith) ∙ ap (λ m. ls ++ drop m strip) (zero-add (length ls))

  -- all lines from a place of an old strip on, and what is left of them at the next place
  pub record Writing (at : ℕ) (old all left : List A) (n : ℕ) (strip : List A) : Type 0 where
    pub lines : put strip n left ≡ put old at all
    pub count : n + length left ≡ at + length all

  pub at_start : (at : ℕ) (old all : List A) → Writing at old all all at old
  at_start at old all = record { lines = refl; count = refl }

  module _ {at : ℕ} {old all left : List A} {n : ℕ} {strip : List A} (w : Writing at old all left n strip) where
    -- there is a place for the next line
    pub has_place : (l : A) (rest : List A) → left ≡ l ∷ rest → n < at + length all
    has_place l rest e = omega (arith, w.count, ap length e)

    -- the next line
    pub write_one : (l x : A) (rest : List A) → x ≡ l → left ≡ l ∷ rest → Writing at old all rest (n + 1) (set strip n x)
    write_one l x rest is e = record {
      lines = ap (λ y. put (set strip n y) (n + 1) rest) is ∙ sym (ap (put strip n) e) ∙ w.lines;
      count = omega (arith, w.count, ap length e);
    }

    pub write_none : (rest : List A) → left ≡ rest → Writing at old all rest n strip
    write_none rest e = record {
      lines = sym (ap (put strip n) e) ∙ w.lines;
      count = omega (arith, w.count, ap length e);
    }

    -- lines that were written from the next place on
    pub write_many : (here rest : List A) → left ≡ here ++ rest → (k : ℕ) (after : List A) → Writing n strip here [] k after → Writing at old all rest k after
    write_many here rest e k after v =
        let z : k ≡ n + length here = omega (arith, v.count) in
        record {
          lines = (λ i. put (v.lines i) (z i) rest) ∙ sym (put_append strip n here rest) ∙ sym (ap (put strip n) e) ∙ w.lines;
          count = omega (arith, w.count, ap length e, length-append here rest);
        }

  pub all_written : {old all left : List A} {n : ℕ} {strip : List A} → Writing 0 old all left n strip → left ≡ [] → length all ≤ length old → (n ≡ length all) × (strip ≡ written all old)
  all_written {old} {all} {left} {n} {strip} w e room =
      (omega (arith, w.count, ap length e), sym (ap (put strip n) e) ∙ w.lines ∙ put_all old all room)
