use Rattle.std.proofs.Common.{◌≡◌, ◌^◌, ◌%◌, bit_and, bit_or, false, drop, sym, ap, ◌∙◌, arith}
use Rattle.std.specs.Int.{IsBitSet}
use Rattle.checks.specs.Tables.{has_number}
use Rattle.checks.proofs.Remainders.{not_noted, following, found, one_more, bit_is, bit_now, bit_still}
use Rattle.checks.proofs.tables.any_equal.Given as given
use Rattle.checks.proofs.tables.any_equal.Goals as goal
use Rattle.checks.proofs.tables.any_equal.Goals.{Joined-else-left-bit-ne0, else-left-bit-ne0-via-then-left-bit-ne0+else-has_number, else-left-bit-ne0-via-else-left-bit-ne0}

pub returns-then-has_number : goal.returns-then-has_number
returns-then-has_number g c =
    let number = g.E.TableEntry.numbered in
    let x = c.index-entries-place.result in
    let cut = following number 64 c.args.entries.now c.loop-place.place x c.loop-place-test.true c.loop-place.auto.place c.index-entries-place.is in
    let there =
    (λ i. has_number number (sym c.number-number.ensures.value i) (sym cut i)) ∙ sym c.has_number.ensures.value ∙ c.if-has_number.true in
    record { value = sym (found number 64 c.args.entries.now c.loop-place.place x c.loop-place-test.true c.loop-place.auto.place c.index-entries-place.is there) }

-- the number is in none of what follows it
none_later : (g : given.Over) (c : Joined-else-left-bit-ne0 g) → has_number g.E.TableEntry.numbered c.number-number.result (drop c.loop-place.place c.args.entries.now) ≡ false
none_later g c =
    let number = g.E.TableEntry.numbered in
    let x = c.index-entries-place.result in
    let cut = following number 64 c.args.entries.now c.loop-place.place x c.loop-place-test.true c.loop-place.auto.place c.index-entries-place.is in
    let bit = bit_is (c.number-number.result % 64) (omega arith) in
    elim c.else-left-bit-ne0.branch [
      | else-left-bit-ne0-via-then-left-bit-ne0+else-has_number w ↦
          ap (has_number number c.number-number.result) (sym cut) ∙ sym w.has_number.ensures.value ∙ w.if-has_number.false
      | else-left-bit-ne0-via-else-left-bit-ne0 w ↦
          not_noted number 64 (IsBitSet c.loop-place.left) c.number-number.result _
          (λ set. set (ap (bit_and c.loop-place.left) (sym bit) ∙ w.if-left-bit-ne0.false)) c.loop-place.invariant.1
    ]

pub loop-place-preserved : goal.loop-place-preserved
loop-place-preserved g c =
    let number = g.E.TableEntry.numbered in
    let entries = c.args.entries.now in
    let (once, noted) = c.loop-place.invariant in
    let bits = c.loop-place.left in
    let remainder = c.number-number.result % 64 in
    let more = one_more number 64 entries c.loop-place.place c.index-entries-place.result c.loop-place-test.true c.loop-place.auto.place c.index-entries-place.is
    (IsBitSet bits) (IsBitSet (bit_or bits (2 ^ remainder))) (λ r. bit_still bits remainder r)
    _ c.number-number.ensures.value (bit_now bits remainder) (none_later g c) once noted in
    rw (bit_is remainder (omega arith)) more
