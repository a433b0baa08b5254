-- An entry that reads as an event is that event's bytes.
use Rattle.std.proofs.Common.{◌≡◌, ℕ, zero, suc, ◌+◌, ◌*◌, ◌/◌, ◌%◌, ◌^◌, ◌<◌, ◌≤◌, Bool, true, false, cond, not, ◌&&◌, ◌||◌, eqb, ltb, List, [], ◌∷◌, ◌++◌, length, get_or, drop, Ok, sym, refl, ap, ◌∙◌, subst, ⊎_elim, add-zero, arith}
use Rattle.std.proofs.lemmas.List.{drop-drop, drop_more, get_or-drop, length-drop}
use Rattle.std.proofs.ByRecursion.{All-drop}
use Rattle.std.proofs.lemmas.Bool.{and_parts, eqb-true, ltb-false, not-false, or_cases, or_parts}
use Rattle.event_file.specs.Bytes.{Bytes}
use Rattle.std.specs.List.{list_all}
use Rattle.event_file.specs.Format.{Shown, Within, entry_bytes, four_bytes, label_stands, laid, printable}
use Rattle.event_file.specs.Entries.{bad_content, blank, breaks_blank_rule, event, event_in, event_letter, event_of, filled_in_vain, form_in, is_blank, label_in, letter_in, most_form, number_at, told, unknown_letter}
use Rattle.event_file.specs.Laws.{OnlyItsBytes}
use Rattle.event_file.proofs.Deciding.{AllPassed, passed_all}

pub byte_at : (bs : List ℕ) → Bytes bs → (i : ℕ) → get_or bs i 0 < 256
byte_at [] h i = omega arith
byte_at (b ∷ bs) h zero = h.0
byte_at (b ∷ bs) h (suc i) = byte_at bs h.1 i

pub number_fits : (bs : List ℕ) → Bytes bs → (i : ℕ) → number_at bs i < 2 ^ 32
number_fits bs h i = omega (arith, byte_at bs h i, byte_at bs h (i + 1), byte_at bs h (i + 2), byte_at bs h (i + 3))

-- the four bytes of a number that four bytes write
module _ (a b c d : ℕ) (ha : a < 256) (hb : b < 256) (hc : c < 256) (hd : d < 256) where
  abbrev n : ℕ
  n = a * 16777216 + b * 65536 + c * 256 + d

  four_again : four_bytes n ≡ a ∷ b ∷ c ∷ d ∷ []
  four_again =
      let one : n / 16777216 % 256 ≡ a = omega arith in
      let two : n / 65536 % 256 ≡ b = omega arith in
      let three : n / 256 % 256 ≡ c = omega arith in
      let four : n % 256 ≡ d = omega arith in
      cc

four_first : (xs : List ℕ) → 4 ≤ length xs → Bytes xs → xs ≡ four_bytes (number_at xs 0) ++ drop 4 xs
four_first [] h k = absurd (omega arith)
four_first (a ∷ []) h k = absurd (omega arith)
four_first (a ∷ b ∷ []) h k = absurd (omega arith)
four_first (a ∷ b ∷ c ∷ []) h k = absurd (omega arith)
four_first (a ∷ b ∷ c ∷ d ∷ xs) h k =
    let (first, after_first) = k in
    let (second, after_second) = after_first in
    let (third, after_third) = after_second in
    let (fourth, later) = after_third in
    ap (λ l. l ++ xs) (sym (four_again a b c d first second third fourth))

-- the four bytes from a place on
four_from : (bs : List ℕ) (i : ℕ) → i + 4 ≤ length bs → Bytes bs → drop i bs ≡ four_bytes (number_at (drop i bs) 0) ++ drop (i + 4) bs
four_from bs i h k =
    four_first (drop i bs) (omega (arith, length-drop i bs)) (All-drop (λ b. b < 256) i bs k)
    ∙ ap (λ l. four_bytes (number_at (drop i bs) 0) ++ l) (drop-drop 4 i bs)

number_from : (bs : List ℕ) (i : ℕ) → number_at (drop i bs) 0 ≡ number_at bs i
number_from bs i = omega (arith, get_or-drop i bs 0 0, ap (λ k. get_or bs k 0) (add-zero i), get_or-drop i bs 1 0, get_or-drop i bs 2 0, get_or-drop i bs 3 0)

number_here : (bs : List ℕ) (i : ℕ) → i + 4 ≤ length bs → Bytes bs → drop i bs ≡ four_bytes (number_at bs i) ++ drop (i + 4) bs
number_here bs i h k = four_from bs i h k ∙ ap (λ n. four_bytes n ++ drop (i + 4) bs) (number_from bs i)

-- an entry is its parts, laid in their order
pub laid_again : (bs : List ℕ) → 14 ≤ length bs → Bytes bs → bs ≡ laid (letter_in bs) (number_at bs 1) (number_at bs 5) (number_at bs 9) (form_in bs) (label_in bs)
laid_again bs h k =
    drop_more bs 0 0 (omega arith)
    ∙ ap (λ l. letter_in bs ∷ l) (number_here bs 1 (omega arith) k)
    ∙ ap (λ l. letter_in bs ∷ (four_bytes (number_at bs 1) ++ l)) (number_here bs 5 (omega arith) k)
    ∙ ap (λ l. letter_in bs ∷ (four_bytes (number_at bs 1) ++ (four_bytes (number_at bs 5) ++ l))) (number_here bs 9 (omega arith) k)
    ∙ ap (λ l. letter_in bs ∷ (four_bytes (number_at bs 1) ++ (four_bytes (number_at bs 5) ++ (four_bytes (number_at bs 9) ++ l)))) (drop_more bs 13 0 (omega arith))

one_or_none : (f : ℕ) → f ≤ 1 → f ≡ cond (eqb f 1) 1 0
one_or_none zero h = refl
one_or_none (suc zero) h = refl
one_or_none (suc (suc f)) h = absurd (omega arith)

-- parts with good content are the bytes of the event that they mean
module _ (d n a f : ℕ) (l : List ℕ) (hd : d < 2 ^ 32) (hn : n < 2 ^ 32) (ha : a < 2 ^ 32) (hl : label_stands l ≡ true) where
  abbrev Good : ℕ → Type 0
  Good c = ltb (most_form c) f ≡ false → filled_in_vain c n a ≡ false → Within (event_of c d n a f l) × (laid c d n a f l ≡ entry_bytes (event_of c d n a f l))

  no_form : ltb 0 f ≡ false → f ≡ 0
  no_form h = omega (arith, ltb-false 0 f h)

  good_E : Good 69
  good_E h v = ((hd, hn, ha, hl), ap (λ x. laid 69 d n a x l) (no_form h))

  good_A : Good 65
  good_A h v = ((hd, hn, ha, hl), ap (λ x. laid 65 d n a x l) (no_form h))

  good_P : Good 80
  good_P h v = ((hd, hn, ha, hl), ap (λ x. laid 80 d n a x l) (no_form h))

  good_S : Good 83
  good_S h v = ((hd, hn, ha, hl), ap (λ x. laid 83 d n a x l) (one_or_none f (ltb-false 1 f h)))

  good_L : Good 76
  good_L h v =
      let none = and_parts (eqb n 0) (eqb a 0) (not-false _ v) in (
        (hd, hl),
        ap (λ x. laid 76 d x a f l) (eqb-true n 0 none.0)
            ∙ ap (λ x. laid 76 d 0 x f l) (eqb-true a 0 none.1)
            ∙ ap (λ x. laid 76 d 0 0 x l) (no_form h),
      )

  good_at : (c k : ℕ) → Good k → eqb c k ≡ true → Good c
  good_at c k g h = subst Good (sym (eqb-true c k h)) g

  good : (c : ℕ) → event_letter c ≡ true → Good c
  good c h =
      ⊎_elim (good_at c 69 good_E)
      (λ r. ⊎_elim (good_at c 65 good_A)
      (λ s. ⊎_elim (good_at c 80 good_P)
      (λ t. ⊎_elim (good_at c 83 good_S) (good_at c 76 good_L) (or_cases _ _ t))
      (or_cases _ _ s))
      (or_cases _ _ r))
      (or_cases _ _ h)

-- an entry that reads as an event has an event's letter, no blank before it and good content
pub record EventRead (known after bad : Bool) (e f : Shown) : Type 0 where
  pub event_known : known ≡ true
  pub none_before : after ≡ false
  pub none_bad : bad ≡ false
  pub same_event : e ≡ f

event_read : (z known dirty after bad : Bool) (e f : Shown) → AllPassed (not (z || known)) (cond z dirty after) (not z && bad) (cond z blank (event e)) (event f) → EventRead known after bad e f
event_read true known dirty after bad e f p =
    let wrong : blank ≡ event f = p.same_told in
    let z : ◌≡◌ {A = ℕ} 0 1 = cc in
    absurd (omega arith)
event_read false known dirty after bad e f p =
    let same : event e ≡ event f = p.same_told in
    record { event_known = not-false known p.letter_known; none_before = p.rule_kept; none_bad = p.content_good; same_event = cc }

pub read_parts : (after : Bool) (bs : List ℕ) (e : Shown) → told after bs ≡ Ok (event e) → EventRead (event_letter (letter_in bs)) after (bad_content bs) (event_in bs) e
read_parts after bs e r =
    event_read (eqb (letter_in bs) 0) (event_letter (letter_in bs)) (not (is_blank bs)) after (bad_content bs) (event_in bs) e
    (passed_all (unknown_letter bs) (breaks_blank_rule after bs) (not (eqb (letter_in bs) 0) && bad_content bs) (cond (eqb (letter_in bs) 0) blank (event (event_in bs))) (event e) r)

-- what good content says of form, numbers and label
pub record GoodContent (bs : List ℕ) : Type 0 where
  pub form_good : ltb (most_form (letter_in bs)) (form_in bs) ≡ false
  pub numbers_good : filled_in_vain (letter_in bs) (number_at bs 5) (number_at bs 9) ≡ false
  pub label_good : label_stands (label_in bs) ≡ true

pub good_content : (bs : List ℕ) → bad_content bs ≡ false → GoodContent bs
good_content bs h =
    let vain = filled_in_vain (letter_in bs) (number_at bs 5) (number_at bs 9) in
    let one = or_parts (ltb (most_form (letter_in bs)) (form_in bs)) (vain || not (label_stands (label_in bs))) h in
    let two = or_parts vain (not (label_stands (label_in bs))) one.1 in
    record { form_good = one.0; numbers_good = two.0; label_good = not-false (label_stands (label_in bs)) two.1 }

-- a label has sixteen bytes, so an entry with a good label has thirty
pub length_from_label : (bs : List ℕ) → label_stands (label_in bs) ≡ true → length bs ≡ 30
length_from_label bs h =
    omega (arith, eqb-true (length (label_in bs)) 16 (and_parts (eqb (length (label_in bs)) 16) (list_all printable (label_in bs)) h).0, length-drop 14 bs)

pub only_its_bytes : OnlyItsBytes
only_its_bytes after bs e k r =
    let p = read_parts after bs e r in
    let g = good_content bs p.none_bad in
    let long = length_from_label bs g.label_good in
    let both = good (number_at bs 1) (number_at bs 5) (number_at bs 9) (form_in bs) (label_in bs) (number_fits bs k 1) (number_fits bs k 5) (number_fits bs k 9) g.label_good (letter_in bs) p.event_known g.form_good g.numbers_good in (
      p.none_before,
      (subst Within p.same_event both.0, laid_again bs (omega (arith, long)) k ∙ both.1 ∙ ap entry_bytes p.same_event),
    )
