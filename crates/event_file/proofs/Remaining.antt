-- What is left to read from a position on, step by step.
use Rattle.std.proofs.Common.{◌≡◌, ℕ, zero, suc, ◌+◌, ◌-◌, ◌*◌, ◌/◌, ◌%◌, ◌<◌, ◌≤◌, ◌||◌, Bool, true, false, not, eqb, ltb, List, [], ◌∷◌, ◌++◌, length, Ok, Err, Result, sym, refl, ap, ◌∙◌, subst, add-one, arith}
use Rattle.std.proofs.lemmas.Bool.{cond-false, ltb-false, ne_eqb}
use Rattle.std.proofs.lemmas.List.{length-append}
use Rattle.refusal.specs.Checks.{first, unless, ◌⇒◌}
use Rattle.refusal.specs.declared.Refusal.{Refusal}
use Rattle.refusal.specs.declared.Refusal.TheVariants.{BadFileLength}
use Rattle.event_file.specs.Blocks.{block_check, block_of, file_blocks}
use Rattle.event_file.specs.Positions.{check_at, from_place, left_at, places}
use Rattle.event_file.specs.Reading.{Item, blocks_read, checked, entries_read, entry_told, file_read, only_fault, opened_read, placed}
use Rattle.event_file.specs.declared.fault.Place.{Place}
use Rattle.event_file.specs.declared.fault.Place.TheVariants.{Block}

-- at the start all is left, and at the end nothing
pub all_left : (bs : List ℕ) → file_blocks (length bs) ≡ Ok (length bs / 512) → left_at bs 0 ≡ file_read bs
unfolding left_at
all_left bs lawful =
    let same : length bs / 512 - 0 ≡ length bs / 512 = omega arith in
    ap (blocks_read bs 0) same ∙ sym (ap (opened_read bs) lawful)

pub none_left : (bs : List ℕ) (p : ℕ) → p ≡ places bs → left_at bs p ≡ []
unfolding left_at
none_left bs p is =
    let blocks = length bs / 512 in
    let number : p / 17 ≡ blocks = omega (arith, is) in
    let place : p % 17 ≡ 0 = omega (arith, is) in
    let none : blocks - blocks ≡ 0 = omega arith in
    (λ i. from_place bs blocks (number i) (place i)) ∙ ap (blocks_read bs blocks) none

pub at_end : (bs : List ℕ) (p : ℕ) → places bs ≤ p → p ≤ places bs → left_at bs p ≡ []
at_end bs p past within = none_left bs p (omega (arith, past, within))

module _ (bs : List ℕ) (p : ℕ) (before : p < places bs) where
  abbrev number : ℕ
  number = p / 17

  abbrev b : List ℕ
  b = block_of bs number

  abbrev later : List Item
  later = blocks_read bs (number + 1) (length bs / 512 - (number + 1))

  -- the next position is in the same block, or at the start of the next
  after_entry : (place left : ℕ) → p % 17 ≡ place → left ≡ 16 - place → entries_read b number (place + 1) left ++ later ≡ left_at bs (p + 1)
  unfolding left_at
  after_entry place zero at none =
      let next : (p + 1) / 17 ≡ number + 1 = omega arith in
      let start : (p + 1) % 17 ≡ 0 = omega arith in
      sym (λ i. from_place bs (length bs / 512) (next i) (start i))
  after_entry place (suc more) at some =
      let same : (p + 1) / 17 ≡ number = omega arith in
      let next : (p + 1) % 17 ≡ suc place = omega arith in
      ap (λ n. entries_read b number n (suc more) ++ later) (add-one place)
      ∙ ap (λ n. entries_read b number (suc place) n ++ later) some
      ∙ sym (λ i. from_place bs (length bs / 512) (same i) (next i))

  -- what a step at a place of a block leaves, by the check that is made there
  abbrev StepAt : ℕ → List Item → Result Unit Refusal → Type 0
  StepAt place left check =
      left ≡ checked check (only_fault (Block (number + 1))) (placed (number + 1) (place + 1) (entry_told b place) ∷ left_at bs (p + 1))

  entry_then : (place left : ℕ) → p % 17 ≡ place → left ≡ 16 - place → StepAt place (entries_read b number place (suc left) ++ later) (Ok tt)
  entry_then place left at rest = ap (λ l. placed (number + 1) (place + 1) (entry_told b place) ∷ l) (after_entry place left at rest)

  by_check : (check : Result Unit Refusal) → p % 17 ≡ 0 →
      StepAt 0 (checked check (only_fault (Block (number + 1))) (entries_read b number 0 17 ++ later)) check
  by_check (Ok u) at = entry_then 0 16 at refl
  by_check (Err refusal) at = refl

  steps : (place : ℕ) → p % 17 ≡ place → StepAt place (from_place bs (length bs / 512) number place) (check_at b place)
  steps zero at =
      let one : length bs / 512 - number ≡ suc (length bs / 512 - (number + 1)) = omega arith in
      ap (blocks_read bs number) one ∙ by_check (block_check b) at
  steps (suc place) at =
      let one : 16 - place ≡ suc (16 - suc place) = omega arith in
      let plain : StepAt (suc place) (from_place bs (length bs / 512) number (suc place)) (Ok tt) =
      ap (λ n. entries_read b number (suc place) n ++ later) one ∙ entry_then (suc place) (16 - suc place) at refl in
      subst (λ (c : Result Unit Refusal). StepAt (suc place) (from_place bs (length bs / 512) number (suc place)) c)
      (sym (cond-false _ _ _ (ne_eqb (suc place) 0 (λ h. omega arith)))) plain

  -- a step before the end goes by the check of its block
  pub step_left : StepAt (p % 17) (left_at bs p) (check_at b (p % 17))
  unfolding left_at
  step_left = steps (p % 17) refl

  module _ (held : List ℕ) (same : held ≡ b) where
    pub stopped : (refusal : Refusal) → Err refusal ≡ check_at held (p % 17) → left_at bs p ≡ only_fault (Block (number + 1)) refusal
    stopped refusal is =
        step_left
        ∙ ap (λ c. checked c (only_fault (Block (number + 1))) (placed (number + 1) (p % 17 + 1) (entry_told b (p % 17)) ∷ left_at bs (p + 1)))
        (sym (is ∙ ap (λ l. check_at l (p % 17)) same))

    pub went : (u : Unit {0}) (item : Item) → Ok u ≡ check_at held (p % 17) → item ≡ placed (number + 1) (p % 17 + 1) (entry_told held (p % 17)) →
        left_at bs p ≡ item ∷ left_at bs (p + 1)
    went u item is told =
        step_left
        ∙ ap (λ c. checked c (only_fault (Block (number + 1))) (placed (number + 1) (p % 17 + 1) (entry_told b (p % 17)) ∷ left_at bs (p + 1)))
        (sym (is ∙ ap (λ l. check_at l (p % 17)) same))
        ∙ ap (λ i. i ∷ left_at bs (p + 1)) (sym (told ∙ ap (λ l. placed (number + 1) (p % 17 + 1) (entry_told l (p % 17))) same))

-- no more is read than there are entries
few_entries : (es : List ℕ) (from place more : ℕ) → length (entries_read es from place more) ≤ more
few_entries es from place zero = omega arith
few_entries es from place (suc more) = omega (arith, few_entries es from (place + 1) more)

checked_few : (at : Place) (items : List Item) (more : ℕ) (check : Result Unit Refusal) → length items ≤ suc more * 17 → length (checked check (only_fault at) items) ≤ suc more * 17
checked_few at items more (Err refusal) few = omega arith
checked_few at items more (Ok u) few = few

few_blocks : (bs : List ℕ) (from more : ℕ) → length (blocks_read bs from more) ≤ more * 17
few_blocks bs from zero = omega arith
few_blocks bs from (suc more) =
    let first = entries_read (block_of bs from) from 0 17 in
    let rest = blocks_read bs (from + 1) more in
    let all : length (first ++ rest) ≤ suc more * 17 = omega (arith, length-append first rest, few_entries (block_of bs from) from 0 17, few_blocks bs (from + 1) more) in
    checked_few (Block (from + 1)) (first ++ rest) more (block_check (block_of bs from)) all

-- a file that is opened is cut into whole blocks, and has at most 128
module _ (n : ℕ) where
  abbrev blocks_by : Bool → Result ℕ Refusal
  blocks_by bad = unless (first ((bad ⇒ BadFileLength) ∷ [])) (n / 512)

  by_length : (bad : Bool) (k : ℕ) → blocks_by bad ≡ Ok k → blocks_by bad ≡ Ok (n / 512)
  by_length true k wrong = cc
  by_length false k is = refl

  by_size : (uneven long : Bool) → ltb 65536 n ≡ long → blocks_by (uneven || long) ≡ Ok (n / 512) → n ≤ 65536
  by_size true long is wrong = cc
  by_size false true is wrong = cc
  by_size false false is e = omega (arith, ltb-false 65536 n is)

  pub lawful_length : (k : ℕ) → file_blocks n ≡ Ok k → file_blocks n ≡ Ok (n / 512)
  lawful_length k is = by_length (not (eqb (n % 512) 0) || ltb 65536 n) k is

  short_file : file_blocks n ≡ Ok (n / 512) → n ≤ 65536
  short_file lawful = by_size (not (eqb (n % 512) 0)) (ltb 65536 n) refl lawful

pub few_left : (bs : List ℕ) → file_blocks (length bs) ≡ Ok (length bs / 512) → length (file_read bs) ≤ 2176
few_left bs lawful =
    omega (arith, ap (λ l. length (opened_read bs l)) lawful, few_blocks bs 0 (length bs / 512), short_file (length bs) lawful)
