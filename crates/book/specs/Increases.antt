-- What the code holds of an addition.
--   addition_in   the addition of an increase
--   lines_billed  how many lines a commitment or raise of a day has
--   contributing, weighing   how many objects contribute, how many operators weigh something
--   lines_shared  how many lines a share-out has
use Rattle.std.specs.Prelude.{ℕ, ◌*◌, cond, List}
use Rattle.book.specs.Lists.{total}
use Rattle.tariff.specs.Meaning.{Meaning}
use Rattle.book.specs.Members.{Member, Addition, weight_to}
use Rattle.unit_prices.specs.Prices.{earlier}
use Rattle.book.specs.Sharing.{amount_divided, due}
use Rattle.book.specs.declared.entries.RegisterEntry.{RegisterEntry}
use Rattle.book.specs.declared.increase.Increase.{Increase}

-- An increase adds its tranches to its operator, on its day and in its year index.
abbrev pub addition_in : Increase → Addition
addition_in i = record {
  operator = i.operator;
  date = i.date;
  index = i.index;
  tranches = i.tranches;
}

-- Two lines for each object that was installed earlier, one for each other.
abbrev pub lines_of : ℕ → RegisterEntry → ℕ
lines_of date o = cond (earlier o.installed date) 2 1

abbrev pub lines_billed : ℕ → List RegisterEntry → ℕ
lines_billed date objects = total (lines_of date) objects

-- How many objects contribute something, and how many operators weigh something.
abbrev pub contributing : Meaning → Addition → List RegisterEntry → ℕ
contributing m a objects = total (λ o. due (amount_divided m a o) 1) objects

abbrev pub weighing : Meaning → ℕ → List Member → ℕ
weighing m index members = total (λ x. due 1 (weight_to m index x.tranches)) members

-- Each object that contributes has a credit line for each operator that weighs something.
abbrev pub lines_shared : Meaning → Addition → List RegisterEntry → List Member → ℕ
lines_shared m a objects members = contributing m a objects * weighing m a.index members
