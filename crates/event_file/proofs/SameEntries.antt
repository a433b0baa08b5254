-- Two blocks that pass all checks and give the same entries are the same bytes.
use Rattle.std.proofs.Common.{◌≡◌, ℕ, ◌+◌, ◌*◌, ◌/◌, ◌%◌, ◌<◌, Bool, true, false, cond, not, ◌&&◌, ◌||◌, eqb, List, [], ◌∷◌, length, get_or, take, drop, replicate, is_ok, Ok, Err, Result, sym, refl, ap, ◌∙◌, ⊎_elim, arith}
use Rattle.refusal.specs.declared.Refusal.{Refusal}
use Rattle.std.proofs.ByRecursion.{All-drop, All-take}
use Rattle.std.proofs.lemmas.List.{ext_get_or, get_or-drop, get_or-take, length-take-le}
use Rattle.std.proofs.lemmas.Bool.{and_parts, cases_eq, cases_lt, eqb-true, not-false}
use Rattle.event_file.specs.Bytes.{Bytes}
use Rattle.std.specs.List.{list_all}
use Rattle.event_file.specs.Blocks.{check_of, entry_of, written_check}
use Rattle.event_file.specs.Format.{Shown, entry_bytes}
use Rattle.event_file.specs.Entries.{Told, event, blank, bad_content, breaks_blank_rule, event_in, event_letter, is_blank, is_zero, letter_in, told, unknown_letter}
use Rattle.event_file.specs.Reading.{blank_before, entry_told}
use Rattle.event_file.specs.Laws.{SameEntries, Sound}
use Rattle.event_file.proofs.Changes.{carried, whole}
use Rattle.event_file.proofs.Deciding.{AllPassed, passed_all}
use Rattle.event_file.proofs.Exact.{byte_at, only_its_bytes}

zeros : (bs : List ℕ) → list_all is_zero bs ≡ true → bs ≡ replicate (length bs) 0
zeros [] h = refl
zeros (b ∷ bs) h =
    let both = and_parts (eqb b 0) (list_all is_zero bs) h in
    let first = eqb-true b 0 both.0 in
    let rest = zeros bs both.1 in
    cc

-- a blank is thirty zero bytes
thirty_zeros : (bs : List ℕ) → is_blank bs ≡ true → bs ≡ replicate 30 0
thirty_zeros bs h =
    let both = and_parts (eqb (length bs) 30) (list_all is_zero bs) h in
    zeros bs both.1 ∙ ap (λ n. replicate n 0) (eqb-true (length bs) 30 both.0)

blank_read : (z known dirty after bad : Bool) (e : Shown) → AllPassed (not (z || known)) (cond z dirty after) (not z && bad) (cond z blank (event e)) blank → dirty ≡ false
blank_read true known dirty after bad e p = p.rule_kept
blank_read false known dirty after bad e p =
    let wrong : event e ≡ blank = p.same_told in
    let z : ◌≡◌ {A = ℕ} 0 1 = cc in
    absurd (omega arith)

-- an entry that reads as a blank is a blank
pub only_zeros : (after : Bool) (bs : List ℕ) → told after bs ≡ Ok blank → bs ≡ replicate 30 0
only_zeros after bs r =
    thirty_zeros bs (not-false (is_blank bs)
    (blank_read (eqb (letter_in bs) 0) (event_letter (letter_in bs)) (not (is_blank bs)) after (bad_content bs) (event_in bs)
    (passed_all (unknown_letter bs) (breaks_blank_rule after bs) (not (eqb (letter_in bs) 0) && bad_content bs) (cond (eqb (letter_in bs) 0) blank (event (event_in bs))) blank r)))

-- an entry that reads as an event is that event's bytes
event_bytes : (x : Bool) (bs : List ℕ) (e : Shown) → Bytes bs → told x bs ≡ Ok (event e) → bs ≡ entry_bytes e
event_bytes x bs e hb p =
    let (rule_kept, writes) = only_its_bytes x bs e hb p in
    let (within, bytes) = writes in
    bytes

-- entries that tell the same are the same bytes
module _ (x y : Bool) (bs cs : List ℕ) (hb : Bytes bs) (hc : Bytes cs) where
  same_told_bytes : (t : Told) → told x bs ≡ Ok t → told y cs ≡ Ok t → bs ≡ cs
  same_told_bytes (event e) p q = event_bytes x bs e hb p ∙ sym (event_bytes y cs e hc q)
  same_told_bytes blank p q = only_zeros x bs p ∙ sym (only_zeros y cs q)

  same_from : (r : Result Told Refusal) → told x bs ≡ r → is_ok r ≡ true → told x bs ≡ told y cs → bs ≡ cs
  same_from (Ok t) p h e = same_told_bytes t p (sym e ∙ p)
  same_from (Err f) p h e = let z : ◌≡◌ {A = ℕ} 0 1 = cc in absurd (omega arith)

-- a byte of a block, found in its entry
byte_in_entry : (b : List ℕ) (i : ℕ) → get_or (entry_of b (i / 30)) (i % 30) 0 ≡ get_or b i 0
byte_in_entry b i =
    let place : i / 30 * 30 + i % 30 ≡ i = omega arith in
    get_or-take 30 (drop (i / 30 * 30) b) (i % 30) 0 (omega arith)
    ∙ get_or-drop (i / 30 * 30) b (i % 30) 0
    ∙ ap (λ k. get_or b k 0) place

module _ (b c : List ℕ) (sb : Sound b) (sc : Sound c) (same : (n : ℕ) → n < 17 → entry_told b n ≡ entry_told c n) where
  same_entry : (n : ℕ) → n < 17 → entry_of b n ≡ entry_of c n
  same_entry n h =
      same_from (blank_before b n) (blank_before c n) (entry_of b n) (entry_of c n)
      (All-take (λ x. x < 256) 30 (drop (n * 30) b) (All-drop (λ x. x < 256) (n * 30) b sb.bytes))
      (All-take (λ x. x < 256) 30 (drop (n * 30) c) (All-drop (λ x. x < 256) (n * 30) c sc.bytes))
      (entry_told b n) refl (sb.entries n h) (same n h)

  same_byte : (i : ℕ) → i < 510 → get_or b i 0 ≡ get_or c i 0
  same_byte i h =
      sym (byte_in_entry b i) ∙ ap (λ l. get_or l (i % 30) 0) (same_entry (i / 30) (omega arith)) ∙ byte_in_entry c i

  same_front : take 510 b ≡ take 510 c
  same_front =
      let long = whole b sb.check in
      let long' = whole c sc.check in
      let front = length-take-le 510 b (omega arith) in
      let front' = length-take-le 510 c (omega arith) in
      ext_get_or 0 (take 510 b) (take 510 c) (front ∙ sym front')
      (λ i h. get_or-take 510 b i 0 (omega arith) ∙ same_byte i (omega arith) ∙ sym (get_or-take 510 c i 0 (omega arith)))

  same_check : written_check b ≡ written_check c
  same_check = sym (carried b sb.check) ∙ ap check_of same_front ∙ carried c sc.check

  same_high : get_or b 510 0 ≡ get_or c 510 0
  same_high = omega (arith, same_check, byte_at b sb.bytes 510, byte_at b sb.bytes 511, byte_at c sc.bytes 510, byte_at c sc.bytes 511)

  same_low : get_or b 511 0 ≡ get_or c 511 0
  same_low = omega (arith, same_check, byte_at b sb.bytes 510, byte_at b sb.bytes 511, byte_at c sc.bytes 510, byte_at c sc.bytes 511)

  named : (i k : ℕ) → i ≡ k → get_or b k 0 ≡ get_or c k 0 → get_or b i 0 ≡ get_or c i 0
  named i k e h = ap (λ n. get_or b n 0) e ∙ h ∙ sym (ap (λ n. get_or c n 0) e)

  same_place : (i : ℕ) → i < 512 → get_or b i 0 ≡ get_or c i 0
  same_place i h =
      ⊎_elim (same_byte i)
      (λ past. ⊎_elim (λ e. named i 510 e same_high) (λ other. named i 511 (omega arith) same_low) (cases_eq i 510))
      (cases_lt i 510)

pub same_entries : SameEntries
same_entries b c sb sc same =
    let long = whole b sb.check in
    let long' = whole c sc.check in
    ext_get_or 0 b c (long ∙ sym long') (λ i h. same_place b c sb sc same i (omega arith))
