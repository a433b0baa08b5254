use Rattle.std.proofs.Common.{rules, ◌≡◌, ltb, subst}
use Rattle.std.specs.List.{IsAllAdjacentAnswer}
use Rattle.std.proofs.lemmas.List.Sorted.{answers_always}
use Rattle.checks.proofs.Rising.{rising_once}
use Rattle.checks.proofs.tables.rise.Goals as goal

pub returns : goal.returns
returns g c =
    let number = g.E.TableEntry.numbered in
    let seen = c.is_sorted_by.ensures.cases (λ x y. ltb (number x) (number y)) (answers_always _ _ _ (λ f a r f' k. search rules)) in
    record {
      once = λ yes. rising_once number c.args.entries.now (subst (IsAllAdjacentAnswer (λ x y b. b ≡ ltb (number x) (number y)) c.args.entries.now) yes seen);
    }
