-- Lines written one after the other.
use Rattle.std.proofs.Common.{◌≡◌, ℕ, ◌+◌, ◌<◌, List, [], ◌∷◌, ◌++◌, length, get_or, take, map, Some, None, Ok, Option, IfSome, sym, refl, ap, ◌∙◌, subst, append-nil, flat_map}
use Rattle.std.proofs.lemmas.List.{take_more}
use Rattle.std.proofs.Output.{has_written_append, then_text_assoc}
use Rattle.std.specs.Fmt.{DisplaysOnOk, HasWritten, ◌++?◌, with_newline}
use Rattle.std.specs.declared.fmt.Formatter.{Formatter}
use Rattle.book.specs.declared.entries.RollEntry.{RollEntry}
use Rattle.file_run.specs.Steps.{shown_notice}
use Rattle.file_run.specs.Texts.{notice_text}
use Rattle.file_run.specs.declared.notice.Notice.{Notice}
use Rattle.statements.specs.Lines.{lines_shown}
use Rattle.statements.specs.Statements.{account_of, account_text, line}

module _ {A : Type 0} (shown : A → Option (List ℕ)) where
  nothing_after : (o : Option (List ℕ)) → o ++? Some [] ≡ Some [] ++? o
  nothing_after None = refl
  nothing_after (Some text) = ap (λ l. Some l) (append-nil text)

  -- one more item at the end
  lines_push : (xs : List A) (x : A) → lines_shown shown (xs ++ x ∷ []) ≡ lines_shown shown xs ++? with_newline (shown x)
  lines_push [] x = nothing_after (with_newline (shown x))
  lines_push (y ∷ ys) x = ap (λ o. with_newline (shown y) ++? o) (lines_push ys x) ∙ sym (then_text_assoc (with_newline (shown y)) (lines_shown shown ys) (with_newline (shown x)))

  module _ {W : Type 0} (took : W → List ℕ → W → Type 0) (f : Formatter W) where
    -- what is shown is written, if it is known
    abbrev Written : Option (List ℕ) → Formatter W → Type 0
    Written o g = IfSome o (λ text. HasWritten took f text g)

    written_on : (o p : Option (List ℕ)) (g h : Formatter W) → Written o g → DisplaysOnOk took g (Ok tt) p h → Written (o ++? p) h
    written_on None p g h before next = tt
    written_on (Some text) None g h before next = tt
    written_on (Some text) (Some more) g h before next = has_written_append took _ _ _ _ _ before (next before.plain refl)

    -- one more line
    pub line_written : (xs : List A) (i : ℕ) (x : A) (g h : Formatter W) → i < length xs → x ≡ get_or xs i x → Written (lines_shown shown (take i xs)) g →
        DisplaysOnOk took g (Ok tt) (with_newline (shown x)) h → Written (lines_shown shown (take (i + 1) xs)) h
    line_written xs i x g h inside is before next =
        let all = lines_push (take i xs) x in
        let here = take_more xs i x inside ∙ ap (λ y. take i xs ++ y ∷ []) (sym is) in
        subst (λ (o : Option (List ℕ)). Written o h) (sym (ap (lines_shown shown) here ∙ all)) (written_on (lines_shown shown (take i xs)) (with_newline (shown x)) g h before next)

-- the lines of notices and of accounts, whose texts are known
pub notices_shown : (notices : List Notice) → lines_shown (λ n. Some (notice_text (shown_notice n))) notices ≡ Some (flat_map (λ n. line (notice_text n)) (map shown_notice notices))
notices_shown [] = refl
notices_shown (n ∷ more) = ap (λ o. Some (line (notice_text (shown_notice n))) ++? o) (notices_shown more)

pub accounts_shown : (roll : List RollEntry) → lines_shown (λ a. Some (account_text a)) (map account_of roll) ≡ Some (flat_map (λ e. line (account_text (account_of e))) roll)
accounts_shown [] = refl
accounts_shown (e ∷ more) = ap (λ o. Some (line (account_text (account_of e))) ++? o) (accounts_shown more)

-- two texts that are known, and a third
pub three_parts : (o p : Option (List ℕ)) (x y z text : List ℕ) → o ≡ Some x → p ≡ Some y → IfSome (o ++? (p ++? Some z)) (λ all. text ≡ all) → text ≡ x ++ (y ++ z)
three_parts o p x y z text first second is =
    subst (λ (a : Option (List ℕ)). IfSome a (λ all. text ≡ all)) (λ i. first i ++? (second i ++? Some z)) is
