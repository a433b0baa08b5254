-- The run of a file is a life.
use Rattle.std.proofs.Common.{ℕ, ◌+◌, ◌≤◌, List, [], sym, ap, ◌∙◌, subst, arith}
use Rattle.tariff.specs.Meaning.{Meaning, Lawful}
use Rattle.book.specs.Laws.{HeldUnder}
use Rattle.book.specs.Life.{Life, begins, empty_state}
use Rattle.book.specs.Lists.{total}
use Rattle.book.specs.Zone.{Tables}
use Rattle.book.specs.declared.figures.Totals.{Totals}
use Rattle.book.proofs.Accounts.{every_life_accounted}
use Rattle.book.proofs.Mirroring.{mirrors}
use Rattle.book.proofs.Reaching.{every_life_fits}
use Rattle.book.proofs.Stepping.{lives}
use Rattle.file_run.specs.Reports.{calls_made, ending, file_steps, paid_out, RunsAsLife}

module _ (m : Meaning) (law : Lawful m) (t : Tables) (bs : List ℕ) where
  life_of : Life m (calls_made m t bs) (ending m t bs)
  life_of = lives m (file_steps bs) (empty_state t) [] (begins t)

  pub runs_as_life : RunsAsLife m t bs
  runs_as_life =
      let accounts = every_life_accounted m law (calls_made m t bs) (ending m t bs) life_of in
      let M = mirrors m law life_of in
      let credited = ap (λ (x : Totals). x.credited) M.totals ∙ M.bounds.credited ∙ sym (ap (total (λ x. x.balance)) M.members) in
      let unshared = (ending m t bs).figures.totals.unshared in
      record {
        life = life_of;
        accounted = accounts;
        held = subst (λ (n : ℕ). HeldUnder (λ lines. lines) (ending m t bs).figures.totals.credit_lines (ending m t bs).figures.totals.contributed (n + unshared)) (sym credited) accounts.held;
      }

  -- what was paid out fits 64 bits
  pub paid_fits : paid_out (ending m t bs) ≤ 8000000000000000000
  paid_fits = let amounts = (every_life_fits m law (calls_made m t bs) (ending m t bs) life_of).amounts in omega (arith, amounts.credited, amounts.unshared)
