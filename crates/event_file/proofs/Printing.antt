-- Bytes that print are text.
use Rattle.std.proofs.Common.{◌≡◌, ℕ, zero, suc, true, false, leb, List, [], ◌∷◌, IsUtf8, IsAscii, ⊎_elim, arith}
use Rattle.std.proofs.lemmas.Str.{IsUtf8-from_ascii}
use Rattle.std.proofs.lemmas.Bool.{and_parts, cases_Bool, leb-true}
use Rattle.std.specs.List.{list_all}
use Rattle.event_file.specs.Format.{printable}

ascii : (bs : List ℕ) → list_all printable bs ≡ true → IsAscii bs
ascii [] h i = omega arith
ascii (b ∷ bs) h zero =
    omega (arith, leb-true b 126 (and_parts (leb 32 b) (leb b 126) (and_parts (printable b) (list_all printable bs) h).0).1)
ascii (b ∷ bs) h (suc i) = ascii bs (and_parts (printable b) (list_all printable bs) h).1 i

pub utf8_printed : (bs : List ℕ) → list_all printable bs ≡ true → IsUtf8 bs
utf8_printed bs h = IsUtf8-from_ascii bs (ascii bs h)

-- what is no text has a byte that does not print
pub unprinted : (bs : List ℕ) → (IsUtf8 bs → ⊥) → list_all printable bs ≡ false
unprinted bs h = ⊎_elim (λ yes. absurd (h (utf8_printed bs yes))) (λ no. no) (cases_Bool (list_all printable bs))
