-- A text without its end blanks is what the library trims to.
use Rattle.std.proofs.Common.{◌≡◌, ℕ, ◌-◌, false, List, [], ◌∷◌, ◌++◌, length, take, Some, None, sym, refl, ap, ◌∙◌, take-append-drop, arith}
use Rattle.std.proofs.Math.Seq.{drop-length}
use Rattle.std.proofs.lemmas.Bool.{cond-false, ne_eqb}
use Rattle.std.proofs.lemmas.Str.Pattern.{drop_at_char, ends_char}
use Rattle.std.specs.Str.Pattern.{CutsSuffixes, FindsCharSuffix, IsTrimEndMatches}
use Rattle.file_run.specs.Reports.{before_rest, without_end_blanks}

-- a blank at the end goes
blank_goes : (xs : List ℕ) → without_end_blanks (xs ++ 32 ∷ []) ≡ without_end_blanks xs
blank_goes [] = refl
blank_goes (b ∷ bs) = ap (before_rest b) (blank_goes bs)

-- with none there, all stay
all_stay : (xs : List ℕ) → ((front : List ℕ) → xs ≡ front ++ 32 ∷ [] → ⊥) → xs ≡ without_end_blanks xs
all_stay [] none = refl
all_stay (b ∷ []) none = sym (cond-false _ _ _ (ne_eqb b 32 (λ is. none [] (ap (λ n. n ∷ []) is))))
all_stay (b ∷ c ∷ cs) none = ap (before_rest b) (all_stay (c ∷ cs) (λ front is. none (b ∷ front) (ap (λ l. b ∷ l) is)))

-- what was cut off one after the other were blanks
cuts : (s : List ℕ) (ns : List ℕ) (r : List ℕ) → CutsSuffixes (FindsCharSuffix 32) s ns r → without_end_blanks r ≡ without_end_blanks s
cuts s [] r is = ap without_end_blanks is
cuts s (n ∷ ns) r (m, earlier, found, is) =
    let start = take (length m - n) m in
    let whole : m ≡ start ++ 32 ∷ [] =
    sym (take-append-drop (length m - n) m) ∙ ap (λ l. start ++ l) (drop_at_char 32 m (length m - n) (length m) found.1 (omega arith) ∙ ap (λ l. 32 ∷ l) (drop-length m)) in
    ap without_end_blanks is ∙ sym (ap without_end_blanks whole ∙ blank_goes start) ∙ cuts s ns m earlier

pub blanks_trimmed : (s r : List ℕ) → IsTrimEndMatches (FindsCharSuffix 32) s r → r ≡ without_end_blanks s
blanks_trimmed s r ((ns, cut), (None, none, u)) = all_stay r (λ front is. let wrong = (ends_char 32 r false none (omega arith)).1 front is in cc) ∙ cuts s ns r cut
blanks_trimmed s r ((ns, cut), (Some n, found, is)) = let one : n ≡ 1 = found.0 in absurd (omega (arith, one, is))
