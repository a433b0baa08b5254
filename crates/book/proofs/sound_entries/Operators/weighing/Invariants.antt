use Rattle.std.proofs.Common.{◌≡◌, ◌+◌, ◌≤◌, drop}
use Rattle.tariff.specs.Meaning.{Meaning}
use Rattle.book.specs.Members.{members_of}
use Rattle.book.specs.Weights.{AreAsked}
use Rattle.book.specs.Increases.{weighing}
use Rattle.book.proofs.sound_entries.Operators.weighing.Given as goal

-- what is left gives the whole
abbrev pub invariant-loop-member : goal.invariant-loop-member
invariant-loop-member l =
    (l.lines ≤ l.member-index) ×
    ((m : Meaning) → AreAsked m l.weights →
    l.lines + weighing m l.weights.index (members_of (drop l.member-index l.self.items.now)) ≡
    weighing m l.weights.index (members_of l.self.items.now))
