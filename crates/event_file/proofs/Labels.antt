-- The label of an event is the sixteen bytes of the file where it stands, and can be a label.
use Rattle.std.proofs.Common.{◌≡◌, ℕ, ◌+◌, ◌-◌, ◌*◌, ◌<◌, Bool, true, false, cond, eqb, List, take, drop, Some, Ok, Err, Result, sym, refl, ap, ◌∙◌, subst, arith}
use Rattle.std.proofs.lemmas.List.{drop-drop, drop-take, take-take}
use Rattle.refusal.specs.declared.Refusal.{Refusal}
use Rattle.event_file.specs.Blocks.{block_of, entry_of}
use Rattle.event_file.specs.Format.{Shown, commitment, raise, opening, cabling, launch, label_of, label_stands}
use Rattle.event_file.specs.Entries.{Told, event, blank, form_in, label_in, letter_in, number_at, told}
use Rattle.event_file.specs.Reading.{Item, LabelIs, blank_before, entry_told, placed}
use Rattle.event_file.proofs.Exact.{good_content, read_parts}

-- the label is the last of the parts, whatever the letter
label_kept : (e a p s : Bool) (d n m f : ℕ) (l : List ℕ) → label_of (cond e (commitment d n m l) (cond a (raise d n m l) (cond p (opening d n m l) (cond s (cabling d n m (eqb f 1) l) (launch d l))))) ≡ l
label_kept true a p s d n m f l = refl
label_kept false true p s d n m f l = refl
label_kept false false true s d n m f l = refl
label_kept false false false true d n m f l = refl
label_kept false false false false d n m f l = refl

-- the label of an event is that of the entry that reads as it
label_read : (after : Bool) (es : List ℕ) (e : Shown) → told after es ≡ Ok (event e) → label_of e ≡ label_in es
label_read after es e h =
    let c = letter_in es in
    ap label_of (sym (read_parts after es e h).same_event)
    ∙ label_kept (eqb c 69) (eqb c 65) (eqb c 80) (eqb c 83) (number_at es 1) (number_at es 5) (number_at es 9) (form_in es) (label_in es)

-- the label of an entry of thirty bytes, cut from a block that is cut from a file
label_cut : (bs : List ℕ) (m k : ℕ) → k < 17 → drop 14 (entry_of (block_of bs m) k) ≡ take 16 (drop (m * 512 + (k * 30 + 14)) bs)
label_cut bs m k h =
    let b = block_of bs m in
    let from = drop (m * 512) bs in
    let n = k * 30 + 14 in
    let size : n + (512 - n) ≡ 512 = omega arith in
    drop-take 14 16 (drop (k * 30) b)
    ∙ ap (take 16) (drop-drop 14 (k * 30) b)
    ∙ ap (λ w. take 16 (drop n (take w from))) (sym size)
    ∙ ap (take 16) (drop-take n (512 - n) from)
    ∙ take-take 16 (512 - n) (drop n from) (omega arith)
    ∙ ap (take 16) (drop-drop n (m * 512) bs)

stands_read : (after : Bool) (es : List ℕ) (e : Shown) → told after es ≡ Ok (event e) → label_stands (label_of e) ≡ true
stands_read after es e h = ap label_stands (label_read after es e h) ∙ (good_content es (read_parts after es e h).none_bad).label_good

-- an entry of a block, counted from 0, where it is told with its numbers from 1
module _ (bs : List ℕ) (m k : ℕ) (inside : k < 17) where
  label_told : (r : Result Told Refusal) → entry_told (block_of bs m) k ≡ r → LabelIs bs (Some (placed (m + 1) (k + 1) r))
  label_told (Ok (event e)) h =
      let before = blank_before (block_of bs m) k in
      let es = entry_of (block_of bs m) k in
      let at : m * 512 + (k * 30 + 14) ≡ (m + 1 - 1) * 512 + ((k + 1 - 1) * 30 + 14) = omega arith in
      record {
        in_place = label_read before es e h ∙ label_cut bs m k inside ∙ ap (λ n. take 16 (drop n bs)) at;
        stands = stands_read before es e h;
      }
  label_told (Ok blank) h = tt
  label_told (Err x) h = tt

  pub labelled : (held : List ℕ) (item : Item) → held ≡ block_of bs m → item ≡ placed (m + 1) (k + 1) (entry_told held k) → LabelIs bs (Some item)
  labelled held item same is =
      subst (λ i. LabelIs bs (Some i)) (sym (is ∙ ap (λ l. placed (m + 1) (k + 1) (entry_told l k)) same)) (label_told (entry_told (block_of bs m) k) refl)
