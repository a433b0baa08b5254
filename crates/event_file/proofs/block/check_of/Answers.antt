use Rattle.std.proofs.Common.{◌≡◌, fold, rules, ◌∙◌}
use Rattle.std.proofs.iter.runs.Made.{chains}
use Rattle.event_file.proofs.Remainders.{rest_of, with_byte}
use Rattle.event_file.proofs.block.check_of.Goals as goal

pub returns : goal.returns
returns c =
    let turns : c.fold.result ≡ fold with_byte 0 c.args.bytes.now = search (rules, chains) in
    record { value = turns ∙ rest_of c.args.bytes.now 0 }
