use Rattle.std.proofs.Common.{◌≡◌, ◌<◌, ◌%◌, Bool, true, false, length, set, drop, sym, ap, ◌∙◌, arith}
use Rattle.std.proofs.lemmas.List.{length-set, get_or-set_same}
use Rattle.checks.specs.Tables.{has_number}
use Rattle.checks.proofs.Remainders.{IsFlagged, not_noted, following, found, one_more, flagged_still}
use Rattle.checks.proofs.tables.any_equal_by_remainder.Given as given
use Rattle.checks.proofs.tables.any_equal_by_remainder.Goals as goal
use Rattle.checks.proofs.tables.any_equal_by_remainder.Goals.{Joined-else-left-remainder, else-left-remainder-via-then-left-remainder+else-has_number, else-left-remainder-via-else-left-remainder}

pub returns-then-has_number : goal.returns-then-has_number
returns-then-has_number g c =
    let number = g.E.TableEntry.numbered in
    let x = c.index-entries-place.result in
    let cut = following number g.row.REMAINDERS c.args.entries.now c.loop-place.place x c.loop-place-test.true c.loop-place.auto.place c.index-entries-place.is in
    let there =
    (λ i. has_number number (sym c.number-number.ensures.value i) (sym cut i)) ∙ sym c.has_number.ensures.value ∙ c.if-has_number.true in
    record { value = sym (found number g.row.REMAINDERS c.args.entries.now c.loop-place.place x c.loop-place-test.true c.loop-place.auto.place c.index-entries-place.is there) }

-- the number is in none of what follows it
none_later : (g : given.Over) (c : Joined-else-left-remainder g) → has_number g.E.TableEntry.numbered c.number-number.result (drop c.loop-place.place c.args.entries.now) ≡ false
none_later g c =
    let number = g.E.TableEntry.numbered in
    let x = c.index-entries-place.result in
    let cut = following number g.row.REMAINDERS c.args.entries.now c.loop-place.place x c.loop-place-test.true c.loop-place.auto.place c.index-entries-place.is in
    elim c.else-left-remainder.branch [
      | else-left-remainder-via-then-left-remainder+else-has_number w ↦
          ap (has_number number c.number-number.result) (sym cut) ∙ sym w.has_number.ensures.value ∙ w.if-has_number.false
      | else-left-remainder-via-else-left-remainder w ↦
          not_noted number g.row.REMAINDERS (IsFlagged c.loop-place.left) c.number-number.result _
          (λ yes. let z : ◌≡◌ {A = Bool} true false = sym yes ∙ w.if-left-remainder.false in absurd cc) c.loop-place.invariant.2
    ]

pub loop-place-preserved : goal.loop-place-preserved
loop-place-preserved g c =
    let number = g.E.TableEntry.numbered in
    let entries = c.args.entries.now in
    let (places, once, noted) = c.loop-place.invariant in
    let flags = c.loop-place.left in
    let remainder = c.number-number.result % g.row.REMAINDERS in
    let inside : remainder < length flags = omega arith in
    let more = one_more number g.row.REMAINDERS entries c.loop-place.place c.index-entries-place.result c.loop-place-test.true c.loop-place.auto.place c.index-entries-place.is
    (IsFlagged flags) (IsFlagged (set flags remainder true)) (λ r. flagged_still flags remainder r inside)
    _ c.number-number.ensures.value (get_or-set_same flags remainder true false inside) (none_later g c) once noted in
    (omega (arith, length-set flags remainder true), more.0, more.1)
