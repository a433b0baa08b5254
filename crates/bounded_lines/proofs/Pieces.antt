-- What a piece of an input has of a line, and how it goes on.
use Rattle.std.proofs.Common.{◌≡◌, ◌≢◌, ℕ, ◌+◌, ◌<◌, ◌≤◌, List, [], ◌∷◌, ◌++◌, None, Some, IfSome, length, min, take, refl, sym, ap, ◌∙◌, subst, append_assoc, append-nil, arith}
use Rattle.std.proofs.lemmas.Bool.{eq-eqb, eqb-true}
use Rattle.std.proofs.lemmas.List.{get_or-take, get_or_default, length-take, length-take-le, take_more}
use Rattle.std.specs.Prelude.{Option}
use Rattle.std.proofs.lemmas.List.Elements.{All-append}
use Rattle.std.specs.Io.KnownBytes.{Consumes, Keeps}
use Rattle.memchr.specs.Find.{IsFirstByte, is_byte}
use Rattle.bounded_lines.specs.Lines.{longest_line, line_feed}
use Rattle.bounded_lines.specs.Pieces.{AtEnd, Took, Unfed}
use Rattle.bounded_lines.proofs.Lines.{Reads, fed}

-- Bytes that are consumed after others.
consumed : (a b c : Option (List ℕ)) (xs ys : List ℕ) → Consumes a b xs → Consumes b c ys → Consumes a c (xs ++ ys)
consumed None b c xs ys p q = tt
consumed (Some x) None c xs ys p q = absurd p
consumed (Some x) (Some y) None xs ys p q = absurd q
consumed (Some x) (Some y) (Some z) xs ys p q = p ∙ ap (λ l. xs ++ l) q ∙ sym (append_assoc xs ys z)

-- a line so far, and what is taken next
module _ (a b c : Option (List ℕ)) (line after ends : List ℕ) (none : Unfed line) (before : Consumes a b line) (took : Took b c line after ends) where
  pub unfed_after : Unfed after
  unfed_after = subst Unfed (sym took.added) (All-append (λ x. x ≢ line_feed) line took.part none took.unfed)

  pub consumed_after : Consumes a c (after ++ ends)
  consumed_after =
      subst (λ l. Consumes a c (l ++ ends)) (sym took.added)
      (subst (Consumes a c) (sym (append_assoc line took.part ends)) (consumed a b c line (took.part ++ ends) before took.taken))

pub line_taken : (a b c : Option (List ℕ)) (line after : List ℕ) → Unfed line → Consumes a b line → Took b c line after (line_feed ∷ []) → length after ≤ longest_line → Reads a c after
line_taken a b c line after none before took short =
    let ends = line_feed ∷ [] in
    fed a c after (unfed_after a b c line after ends none before took) (consumed_after a b c line after ends none before took) short

pub part_taken : (a b c : Option (List ℕ)) (line after : List ℕ) → Unfed line → Consumes a b line → Took b c line after [] → Consumes a c after
part_taken a b c line after none before took =
    subst (Consumes a c) (append-nil after) (consumed_after a b c line after [] none before took)

module _ (piece : List ℕ) (n end : ℕ) (first : IsFirstByte (is_byte line_feed) (take n piece) (Some end)) where
  within : end < min n (length piece)
  within = omega (arith, first.0.high, length-take n piece)

  unfed : Unfed (take end piece)
  unfed k d below = λ feed.
      let long = length-take-le end piece (omega (arith, within)) in
      let at = get_or-take end piece k d (omega arith) ∙ get_or_default piece k d 0 (omega (arith, within)) ∙ sym (get_or-take n piece k 0 (omega (arith, within))) in
      first.0.before k (omega arith) (omega arith) (eq-eqb _ _ (sym at ∙ feed))

  ends_fed : take (end + 1) piece ≡ take end piece ++ (line_feed ∷ [])
  ends_fed =
      let feed = sym (get_or-take n piece end 0 (omega (arith, within))) ∙ eqb-true _ _ first.1 in
      take_more piece end 0 (omega (arith, within)) ∙ ap (λ b. take end piece ++ (b ∷ [])) feed

  pub end_inside : end + 1 ≤ length piece
  end_inside = omega (arith, within)

  pub end_before : end ≤ n
  end_before = omega (arith, within)

  pub line_took : (a c : Option (List ℕ)) (line after : List ℕ) → after ≡ line ++ take end piece → Consumes a c (take (end + 1) piece) → Took a c line after (line_feed ∷ [])
  line_took a c line after added taken = record { part = take end piece; added = added; unfed = unfed; taken = subst (Consumes a c) ends_fed taken }

module _ (piece : List ℕ) (n : ℕ) (nowhere : IsFirstByte (is_byte line_feed) (take n piece) None) where
  pub part_took : (a c : Option (List ℕ)) (line after : List ℕ) → after ≡ line ++ take n piece → Consumes a c (take n piece) → Took a c line after []
  part_took a c line after added taken = record {
    part = take n piece;
    added = added;
    unfed = λ k d below feed. nowhere k (omega arith) below (eq-eqb _ _ (get_or_default (take n piece) k 0 d below ∙ feed));
    taken = subst (Consumes a c) (sym (append-nil (take n piece))) taken;
  }

pub at_end : (a c : Option (List ℕ)) (shown line : List ℕ) → length shown ≡ 0 → IfSome a (λ xs. length shown ≡ 0 → xs ≡ []) → Keeps a c → AtEnd a c line line
at_end None c shown line none end kept = record { same = refl; kept = kept; none = tt }
at_end (Some x) c shown line none end kept = record { same = refl; kept = kept; none = end none }
