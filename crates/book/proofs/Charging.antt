-- The lines of a bill and of a charge, when all of them are written.
use Rattle.std.proofs.Common.{◌≡◌, ℕ, ◌*◌, ◌≤◌, List, length, drop, mul-le-mul}
use Rattle.std.proofs.lemmas.List.{at_drop_all}
use Rattle.tariff.specs.Meaning.{Meaning}
use Rattle.book.specs.Lists.{written}
use Rattle.book.specs.Members.{Addition, members_of}
use Rattle.book.specs.Billing.{bill, charged}
use Rattle.book.specs.declared.entries.RollEntry.{RollEntry}
use Rattle.book.specs.declared.entries.RegisterEntry.{RegisterEntry}
use Rattle.book.specs.declared.lines.Line.{Line}
use Rattle.book.proofs.Writing.{Writing, all_written}

-- a line that shows an amount
pub line_fits : (u q b : ℕ) → u ≤ b → q ≤ 10000 → u * q ≤ b * 10000
line_fits u q b h few = mul-le-mul h few

pub bill_done : (m : Meaning) (a : Addition) {old : List Line} (os : List RegisterEntry) (i : ℕ) {n : ℕ} {strip : List Line} → Writing 0 old (bill m a os) (bill m a (drop i os)) n strip →
    length os ≤ i → length (bill m a os) ≤ length old → strip ≡ written (bill m a os) old
bill_done m a os i w h room = (all_written w (at_drop_all (bill m a) os i h) room).1

pub charged_done : (m : Meaning) (o : RegisterEntry) {old : List Line} (roll : List RollEntry) (i : ℕ) {n : ℕ} {strip : List Line} → Writing 0 old (charged m o (members_of roll)) (charged m o (members_of (drop i roll))) n strip →
    length roll ≤ i → length (charged m o (members_of roll)) ≤ length old → strip ≡ written (charged m o (members_of roll)) old
charged_done m o roll i w h room = (all_written w (at_drop_all (λ es. charged m o (members_of es)) roll i h) room).1
