-- A line that is too long says so however it goes on.
use Rattle.std.proofs.Common.{◌≡◌, ℕ, ◌+◌, ◌<◌, ◌≤◌, Bool, true, false, cond, Err, ltb, List, length, refl, sym, ap, ◌∙◌, arith, take_all, length-take-le}
use Rattle.std.proofs.lemmas.Bool.{ltb-false, ltb-true, lt-ltb}
use Rattle.bounded_lines.specs.Lines.{longest_line, kept}
use Rattle.requests.specs.Requests.{asked_in, request_in, SaysWhenCut}
use Rattle.requests.specs.declared.unreadable.Unreadable.TheVariants.{TooLong}

cut_at : (line : List ℕ) (long : Bool) → ltb longest_line (length line) ≡ long
    → request_in (kept line) ≡ request_in line
cut_at line true long =
    let beyond : longest_line + 1 ≤ length line = omega (arith, ltb-true _ _ long) in
    let shown : longest_line < length (kept line) =
    omega (arith, length-take-le (longest_line + 1) line beyond) in
    ap (λ b. cond b (Err TooLong) (asked_in (kept line))) (lt-ltb _ _ shown)
    ∙ sym (ap (λ b. cond b (Err TooLong) (asked_in line)) long)
cut_at line false long =
    ap request_in (take_all (longest_line + 1) line (omega (arith, ltb-false _ _ long)))

pub says_when_cut : SaysWhenCut
says_when_cut line = cut_at line (ltb longest_line (length line)) refl
