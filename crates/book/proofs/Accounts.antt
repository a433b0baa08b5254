-- Every life is accounted for, since every call keeps zone and tables as the tally has them.
use Rattle.std.proofs.Common.{ℕ, ap, arith}
use Rattle.book.specs.Lists.{total}
use Rattle.book.specs.Laws.{HeldUnder, EveryLifeAccounted}
use Rattle.book.specs.declared.figures.Totals.{Totals}
use Rattle.book.proofs.Holding.{Within}
use Rattle.book.proofs.Mirroring.{mirrors}

held_under : (n x y : ℕ) → Within n x y → HeldUnder (λ lines. lines) n x y
held_under n x y w = record { none = λ h. omega arith; over = λ h. omega arith; under = λ h. omega arith }

pub every_life_accounted : EveryLifeAccounted (λ lines. lines)
every_life_accounted m law calls s life =
    let M = mirrors m law life in
    let c = ap (λ (x : Totals). x.contributed) M.totals in
    let u = ap (λ (x : Totals). x.unshared) M.totals in
    let l = ap (λ (x : Totals). x.credit_lines) M.totals in
    let r = ap (total (λ x. x.balance)) M.members in
    let w = M.bounds.within in
    record {
      members = M.members;
      objects = M.objects;
      operators_counted = M.operators_counted;
      objects_counted = M.objects_counted;
      totals = M.totals;
      held = held_under _ _ _ (omega arith, omega arith);
    }
