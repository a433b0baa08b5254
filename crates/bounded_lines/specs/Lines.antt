-- What is kept of the lines of an input.
--   line_of    the line that bytes begin with, up to its line feed
--   kept       a line, or as much of it as shows that it is too long
--   line_read  what is kept of the line that an input begins with
use Rattle.std.specs.Prelude.{ℕ, ◌+◌, ◌==◌, cond, List, [], ◌∷◌, take, Some, None, Option}

-- The most bytes of a line.
abbrev pub longest_line : ℕ
longest_line = 4096

-- The byte that ends a line.
abbrev pub line_feed : ℕ
line_feed = 10

-- The bytes up to the first line feed, or all where there is none.
abbrev pub line_of : List ℕ → List ℕ
line_of [] = []
line_of (b ∷ bs) = cond (b == line_feed) [] (b ∷ line_of bs)

-- A line that is too long is kept to one byte more than the longest, which shows it.
abbrev pub kept : List ℕ → List ℕ
kept line = take (longest_line + 1) line

-- What is kept of an input's next line, if one is left.
abbrev pub line_read : List ℕ → Option (List ℕ)
line_read [] = None
line_read (b ∷ bs) = Some (kept (line_of (b ∷ bs)))
