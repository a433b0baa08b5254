use Rattle.std.proofs.Common.{◌≡◌, ◌+◌, ◌≤◌, drop}
use Rattle.book.specs.Increases.{addition_in, contributing}
use Rattle.book.proofs.sound_entries.Objects.contributing.Given as goal

-- what is left gives the whole
abbrev pub invariant-loop-item : goal.invariant-loop-item
invariant-loop-item g l =
    (l.lines ≤ l.item-index) ×
    (l.lines + contributing (g.T.Tariff.meaning l.sheet) (addition_in l.increase) (drop l.item-index l.self.items.now) ≡
    contributing (g.T.Tariff.meaning l.sheet) (addition_in l.increase) l.self.items.now)
