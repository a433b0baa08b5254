use Rattle.std.proofs.Common.{◌≡◌, codes, refl, arith}
use Rattle.std.proofs.lemmas.Slice.Eq.{text_from_reads}
use Rattle.requests.proofs.reading.KeywordTryFromRefSliceU8.try_from.Goals as goal

pub returns-in-consumer : goal.returns-in-consumer
returns-in-consumer c =
    let is : c.args.word.now ≡ codes "consumer" = text_from_reads c.args.word.now (codes "consumer") (omega arith) (omega arith, (omega arith, (omega arith, (omega arith, (omega arith, (omega arith, (omega arith, (omega arith, tt)))))))) in
    rw is refl
