-- What is read of an input, piece by piece, is its next line, and what is left comes after the line feed.
use Rattle.std.proofs.Common.{◌≡◌, ◌≢◌, ℕ, ◌+◌, ◌<◌, ◌≤◌, cond, List, [], ◌∷◌, ◌++◌, None, Some, IfSome, length, take, refl, sym, ap, ◌∙◌, arith, take_all, append_assoc, append-nil, ne_eqb, length-append}
use lib.Seq.{take-append_seam}
use Rattle.std.proofs.lemmas.List.Elements.{All-head, All-tail}
use Rattle.std.proofs.BufReadLemmas.{drop_through-append}
use Rattle.std.specs.Prelude.{Option}
use Rattle.std.specs.Io.KnownBytes.{Consumes, Keeps}
use Rattle.std.specs.Io.BufRead.{drop_through, DropsThrough}
use Rattle.bounded_lines.specs.Lines.{longest_line, line_feed, line_of, kept, line_read}
use Rattle.bounded_lines.specs.Pieces.{Unfed}

-- The line that was read of known bytes, and what is left of them.
abbrev pub Reads : Option (List ℕ) → Option (List ℕ) → List ℕ → Type 0
Reads old new line =
    IfSome old (λ given. Some line ≡ line_read given) × DropsThrough old new line_feed

-- What has no line feed is the front of a line.
line_of-append : (line rest : List ℕ) → Unfed line → line_of (line ++ rest) ≡ line ++ line_of rest
line_of-append [] rest none = refl
line_of-append (b ∷ bs) rest none =
    ap (λ feed. cond feed [] (b ∷ line_of (bs ++ rest))) (ne_eqb b line_feed (All-head (λ x. x ≢ line_feed) b bs none))
    ∙ ap (λ l. b ∷ l) (line_of-append bs rest (All-tail (λ x. x ≢ line_feed) b bs none))

-- Where bytes are left there is a line.
line_read-some : (given : List ℕ) → 0 < length given → line_read given ≡ Some (kept (line_of given))
line_read-some [] some = absurd (omega (arith, some))
line_read-some (b ∷ bs) some = refl

-- Bytes that begin with a line, which is kept.
line_read-front : (given line rest : List ℕ) → given ≡ line ++ rest → 0 < length given
    → Unfed line → kept (line ++ line_of rest) ≡ line → Some line ≡ line_read given
line_read-front given line rest is some none whole =
    sym (line_read-some given some
    ∙ ap (λ l. Some (kept (line_of l))) is
    ∙ ap (λ l. Some (kept l)) (line_of-append line rest none)
    ∙ ap Some whole)

-- A line that is not too long is kept whole.
kept-whole : (line : List ℕ) → length line ≤ longest_line → kept (line ++ []) ≡ line
kept-whole line short = ap kept (append-nil line) ∙ take_all (longest_line + 1) line (omega (arith, short))

-- A line and its line feed.
pub fed : (a c : Option (List ℕ)) (line : List ℕ) → Unfed line → Consumes a c (line ++ (line_feed ∷ []))
    → length line ≤ longest_line → Reads a c line
fed None c line none p short = (tt, tt)
fed (Some x) None line none p short = absurd p
fed (Some x) (Some z) line none p short =
    let is : x ≡ line ++ (line_feed ∷ z) = p ∙ append_assoc line (line_feed ∷ []) z in
    let some : 0 < length x = omega (arith, ap length is, length-append line (line_feed ∷ z)) in (
      line_read-front x line (line_feed ∷ z) is some none (kept-whole line short),
      ap Some (sym (ap (drop_through line_feed) is ∙ drop_through-append line_feed line (line_feed ∷ z) none)),
    )

-- A line that the input ends.
pub ended : (a b c : Option (List ℕ)) (line : List ℕ) → Unfed line → Consumes a b line
    → Keeps b c → IfSome b (λ left. left ≡ []) → 0 < length line → length line ≤ longest_line → Reads a c line
ended None b c line none p kept end some short = (tt, tt)
ended (Some x) None c line none p kept end some short = absurd p
ended (Some x) (Some y) None line none p kept end some short = absurd kept
ended (Some x) (Some y) (Some z) line none p kept end some short =
    let is : x ≡ line ++ [] = p ∙ ap (λ l. line ++ l) end in
    let long : 0 < length x = omega (arith, ap length is, length-append line [], some) in (
      line_read-front x line [] is long none (kept-whole line short),
      ap Some (kept ∙ end ∙ sym (ap (drop_through line_feed) is ∙ drop_through-append line_feed line [] none)),
    )

-- A line that is too long, once its rest is skipped.
pub skipped : (a b c : Option (List ℕ)) (line : List ℕ) → Unfed line → Consumes a b line
    → DropsThrough b c line_feed → length line ≡ longest_line + 1 → Reads a c line
skipped None b c line none p q long = (tt, tt)
skipped (Some x) None c line none p q long = absurd p
skipped (Some x) (Some y) c line none p q long =
    let some : 0 < length x = omega (arith, ap length p, length-append line y, long) in
    let whole : kept (line ++ line_of y) ≡ line =
    ap (λ n. take n (line ++ line_of y)) (sym long) ∙ take-append_seam line (line_of y) in (
      line_read-front x line y p some none whole,
      q ∙ ap Some (sym (ap (drop_through line_feed) p ∙ drop_through-append line_feed line y none)),
    )
