-- A file that is too long is stated alike, however it goes on.
use Rattle.std.proofs.Common.{◌≡◌, ℕ, ◌||◌, ◌<◌, ◌/◌, ◌%◌, Bool, true, false, not, eqb, List, [], ◌∷◌, Err, length, take, refl, sym, ap, ◌∙◌, arith}
use Rattle.std.proofs.lemmas.Bool.{ltb-true, ltb-false, lt-ltb}
use Rattle.std.proofs.lemmas.List.{take_all, length-take-le}
use Rattle.std.proofs.Math.Bool.{or-true}
use Rattle.std.proofs.Math.Dec.{ltb}
use Rattle.refusal.specs.Checks.{first, unless, ◌⇒◌}
use Rattle.refusal.specs.declared.Refusal.TheVariants.{BadFileLength}
use Rattle.tariff.specs.Meaning.{Meaning}
use Rattle.event_file.specs.Blocks.{file_blocks}
use Rattle.event_file.specs.Reading.{file_read, opened_read}
use Rattle.event_file.specs.Telling.{Telling, left_to_tell, file_tells}
use Rattle.book.specs.Life.{empty_state}
use Rattle.book.specs.Runs.{lived}
use Rattle.book.specs.Zone.{Tables}
use Rattle.file_run.specs.Reports.{notices, steps_told}
use Rattle.statements.specs.Statements.{statement_at, statement_of}

refused_length : (n : ℕ) → 65536 < n → file_blocks n ≡ Err BadFileLength
refused_length n long =
    ap (λ b. unless {A = ℕ} (first ((b ⇒ BadFileLength) ∷ [])) (n / 512)) (ap (λ b. not (eqb (n % 512) 0) || b) (lt-ltb 65536 n long) ∙ or-true (not (eqb (n % 512) 0)))

-- What such a file tells is that it is refused.
reads_alike : (bs cs : List ℕ) → 65536 < length bs → 65536 < length cs → file_read bs ≡ file_read cs
reads_alike bs cs long longer = ap (opened_read bs) (refused_length (length bs) long) ∙ ap (opened_read cs) (sym (refused_length (length cs) longer))

cut_tells : (bs : List ℕ) → file_tells (take 65537 bs) ≡ file_tells bs
cut_tells bs = go (ltb 65536 (length bs)) refl where
  go : (b : Bool) → ltb 65536 (length bs) ≡ b → file_tells (take 65537 bs) ≡ file_tells bs
  go true is =
      let long = ltb-true 65536 (length bs) is in
      let cut = length-take-le 65537 bs (omega (arith, long)) in
      ap left_to_tell (reads_alike (take 65537 bs) bs (omega (arith, cut)) long)
  go false is = ap file_tells (take_all 65537 bs (omega (arith, ltb-false 65536 (length bs) is)))

pub cut_states : (m : Meaning) (t : Tables) (bs : List ℕ) → statement_of m t (take 65537 bs) ≡ statement_of m t bs
cut_states m t bs = ap (λ (told : List Telling). statement_at (notices m (empty_state t) told) (lived m (empty_state t) (steps_told told))) (cut_tells bs)
