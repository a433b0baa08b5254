-- Items shown one below the other.
use Rattle.std.specs.Prelude.{ℕ, List, [], ◌∷◌, Some, Option}
use Rattle.std.specs.Fmt.{◌++?◌, with_newline}

-- Each item on a line of its own, if what each shows is known.
abbrev pub lines_shown : {A : Type 0} → (A → Option (List ℕ)) → List A → Option (List ℕ)
lines_shown shown [] = Some []
lines_shown shown (x ∷ xs) = with_newline (shown x) ++? lines_shown shown xs
