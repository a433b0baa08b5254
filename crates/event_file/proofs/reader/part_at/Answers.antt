use Rattle.std.proofs.Common.{◌∙◌, ap, [], slice_index_or}
use Rattle.event_file.proofs.Parts.{chunk_at}
use Rattle.event_file.proofs.reader.part_at.Goals as goal

pub returns : goal.returns
returns g c =
    let h = c.as_chunks.ensures.front in
    record { value = ap (λ ps. slice_index_or ps c.args.number []) h ∙ chunk_at g.row.SIZE _ c.args.number c.args.bytes.now c.requires.1 }
