use Rattle.std.proofs.Common.{◌≤◌, length, sym, ◌∙◌, arith}
use Rattle.requests.proofs.Amounts.{too_short, no_point, by_parts, too_many, summed}
use Rattle.requests.proofs.number.amount_in.Goals as goal

pub returns-in_err-checked_sub : goal.returns-in_err-checked_sub
returns-in_err-checked_sub c =
    let short : 7 ≤ length c.args.word.now → ⊥ = c.in_err-checked_sub.ensures in
    record { value = c.from_residual.ensures ∙ sym (too_short c.args.word.now (omega arith)) }

pub returns-in_err-decimals : goal.returns-in_err-decimals
returns-in_err-decimals c =
    let place = c.in_ok-checked_sub.ensures in
    let none = no_point c.args.word.now c.in_ok-checked_sub.field-0 place.1 place.0 (rw c.split_at.ensures.back at c.in_err-decimals.ensures.cases) in
    record { value = c.from_residual-in_err-decimals.ensures ∙ sym none }

pub returns-in_err-number_in : goal.returns-in_err-number_in
returns-in_err-number_in c =
    let none = sym c.number_in.ensures.value ∙ c.in_err-number_in.was in
    let parts = by_parts c.args.word.now c.split_at.result.0.now c.split_at.result.1.now c.in_ok-decimals.decimals.now c.in_ok-checked_sub.field-0 c.in_ok-checked_sub.ensures c.split_at.ensures.front c.split_at.ensures.back
    (c.in_ok-decimals.ensures.cases.0, c.in_ok-decimals.ensures.cases.1) in
    record { value = c.from_residual-in_err-number_in.ensures ∙ sym (rw none at parts) }

pub returns-in_err-euros : goal.returns-in_err-euros
returns-in_err-euros c =
    let some = sym c.number_in.ensures.value ∙ c.in_ok-number_in.was in
    let parts = by_parts c.args.word.now c.split_at.result.0.now c.split_at.result.1.now c.in_ok-decimals.decimals.now c.in_ok-checked_sub.field-0 c.in_ok-checked_sub.ensures c.split_at.ensures.front c.split_at.ensures.back
    (c.in_ok-decimals.ensures.cases.0, c.in_ok-decimals.ensures.cases.1) in
    record { value = c.from_residual-in_err-euros.ensures ∙ sym ((rw some at parts) ∙ too_many c.in_ok-number_in.field-0 _ c.in_err-euros.ensures) }

pub returns-in_err-number_in-2 : goal.returns-in_err-number_in-2
returns-in_err-number_in-2 c =
    let some = sym c.number_in.ensures.value ∙ c.in_ok-number_in.was in
    let none = sym c.number_in-2.ensures.value ∙ c.in_err-number_in-2.was in
    let parts = by_parts c.args.word.now c.split_at.result.0.now c.split_at.result.1.now c.in_ok-decimals.decimals.now c.in_ok-checked_sub.field-0 c.in_ok-checked_sub.ensures c.split_at.ensures.front c.split_at.ensures.back
    (c.in_ok-decimals.ensures.cases.0, c.in_ok-decimals.ensures.cases.1) in
    record { value = c.from_residual-in_err-number_in-2.ensures ∙ sym (rw (some, none) at parts) }

pub returns : goal.returns
returns c =
    let some = sym c.number_in.ensures.value ∙ c.in_ok-number_in.was in
    let more = sym c.number_in-2.ensures.value ∙ c.in_ok-number_in-2.was in
    let sum = summed c.in_ok-number_in.field-0 c.in_ok-number_in-2.field-0 c.checked_add.result (rw c.in_ok-euros.ensures.1 at c.checked_add.ensures) in
    let parts = by_parts c.args.word.now c.split_at.result.0.now c.split_at.result.1.now c.in_ok-decimals.decimals.now c.in_ok-checked_sub.field-0 c.in_ok-checked_sub.ensures c.split_at.ensures.front c.split_at.ensures.back
    (c.in_ok-decimals.ensures.cases.0, c.in_ok-decimals.ensures.cases.1) in
    record { value = sum ∙ sym (rw (some, more) at parts) }
