-- What a piece of an input has of a line.
--   Unfed    bytes without a line feed
--   Took     a part is added to the line, and taken from the input with what ends it
--   AtEnd    the line as it was, and an input with nothing left
--   IsTaken  what is taken: the rest of a line, a part of it, or nothing at the input's end
use Rattle.std.specs.Prelude.{◌≡◌, ◌≢◌, ℕ, List, [], ◌∷◌, ◌++◌, All, Option, IfSome}
use Rattle.std.specs.Io.KnownBytes.{Consumes, Keeps}
use Rattle.bounded_lines.specs.Lines.{line_feed}
use Rattle.bounded_lines.specs.declared.Taken.{Taken}
use Rattle.bounded_lines.specs.declared.Taken.TheVariants.{Line, Part, End}

-- No line feed is among these bytes.
abbrev pub Unfed : List ℕ → Type 0
Unfed line = All (λ b. b ≢ line_feed) line

-- A part without a line feed is added to a line, and the input loses it, and what ends it.
pub record Took (old new : Option (List ℕ)) (before after ends : List ℕ) : Type 0 where
  pub part : List ℕ
  pub added : after ≡ before ++ part
  pub unfed : Unfed part
  pub taken : Consumes old new (part ++ ends)

-- The line stays as it was, and so does the input, which has nothing left.
pub record AtEnd (old new : Option (List ℕ)) (before after : List ℕ) : Type 0 where
  pub same : after ≡ before
  pub kept : Keeps old new
  pub none : IfSome old (λ left. left ≡ [])

-- A line goes up to its line feed, which is taken and not kept; a part of it has none.
abbrev pub IsTaken : Option (List ℕ) → Option (List ℕ) → List ℕ → List ℕ → Taken → Type 0
IsTaken old new before after Line = Took old new before after (line_feed ∷ [])
IsTaken old new before after Part = Took old new before after []
IsTaken old new before after End = AtEnd old new before after
