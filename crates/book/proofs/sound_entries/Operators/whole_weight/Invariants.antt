use Rattle.std.proofs.Common.{◌≡◌, ◌+◌, ◌*◌, ◌≤◌, drop}
use Rattle.tariff.specs.Meaning.{Meaning}
use Rattle.book.specs.Members.{members_of, whole_weight}
use Rattle.book.specs.Weights.{AreAsked}
use Rattle.book.proofs.sound_entries.Operators.whole_weight.Given as goal

-- what is left gives the whole
abbrev pub invariant-loop-member : goal.invariant-loop-member
invariant-loop-member l =
    (l.whole ≤ 4000 * l.member-index) ×
    ((m : Meaning) → AreAsked m l.weights →
    l.whole + whole_weight m l.weights.index (members_of (drop l.member-index l.self.items.now)) ≡
    whole_weight m l.weights.index (members_of l.self.items.now))
