use Rattle.std.proofs.Common.{◌≡◌, codes, refl, arith}
use Rattle.std.proofs.lemmas.Slice.Eq.{text_from_reads}
use Rattle.requests.proofs.request.ChoiceTryFromRefSliceU8.try_from.Goals as goal

pub returns-in-indexed : goal.returns-in-indexed
returns-in-indexed c =
    let is : c.args.word.now ≡ codes "indexed" = text_from_reads c.args.word.now (codes "indexed") (omega arith) (omega arith, (omega arith, (omega arith, (omega arith, (omega arith, (omega arith, (omega arith, tt))))))) in
    rw is refl
