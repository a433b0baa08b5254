use Rattle.std.proofs.Common.{[], refl}
use Rattle.book.specs.Life.{begins}
use Rattle.book.proofs.Accounts.{every_life_accounted}
use Rattle.book.proofs.Living.{whole_life_laws}
use Rattle.book.proofs.prepared.PreparedZone.new.Goals as goal

pub returns : goal.returns
returns c = record {
  value = λ t. refl;
  life = λ m law t. (begins t, every_life_accounted m law [] _ (begins t));
  laws = whole_life_laws;
}
