use Rattle.std.proofs.Common.{◌≡◌, ◌<◌, true, length, sym, ◌∙◌, arith, rules}
use Rattle.std.proofs.lemmas.List.{at_drop_all}
use Rattle.std.specs.Char.{digit_value}
use Rattle.calendar.specs.Days.{within}
use Rattle.requests.specs.Words.{number, read_on}
use Rattle.requests.proofs.Digits.{read_none, digit_refused, one_to_nine, nine_digits, read_whole}
use Rattle.requests.proofs.number.number_in.Goals as goal

pub returns-then-not-contains : goal.returns-then-not-contains
unfolding number
returns-then-not-contains c = search rules

pub returns-in_err-value : goal.returns-in_err-value
returns-in_err-value c =
    let w = c.args.word.now in
    let long : within 1 (length w) 9 ≡ true = search rules in
    let high : digit_value c.from.result < 10 → ⊥ = c.in_err-value.ensures.value in
    let none = read_none c.loop-byte.value w c.loop-byte.byte-index (omega arith) (rw c.from.ensures at (digit_refused c.from.result high)) in
    record { value = c.from_residual.ensures ∙ sym (read_whole w long ∙ sym c.loop-byte.invariant.1 ∙ none) }

pub overflow_mul-value : goal.overflow_mul-value
overflow_mul-value c =
    let long : within 1 (length c.args.word.now) 9 ≡ true = search rules in
    let most = (one_to_nine (length c.args.word.now) long).1 in
    let few = nine_digits c.loop-byte.value c.loop-byte.byte-index c.loop-byte.invariant.0 (omega arith) in
    omega arith

pub overflow_add-value : goal.overflow_add-value
overflow_add-value c =
    let long : within 1 (length c.args.word.now) 9 ≡ true = search rules in
    let most = (one_to_nine (length c.args.word.now) long).1 in
    let few = nine_digits c.loop-byte.value c.loop-byte.byte-index c.loop-byte.invariant.0 (omega arith) in
    let nine = c.in_ok-value.ensures.value in
    omega arith

pub returns : goal.returns
returns c =
    let w = c.args.word.now in
    let long : within 1 (length w) 9 ≡ true = search rules in
    let ends = at_drop_all (read_on c.loop-byte.value) w c.loop-byte.byte-index (omega arith) in
    record { value = sym (read_whole w long ∙ sym c.loop-byte.invariant.1 ∙ ends) }
