use Rattle.std.proofs.Common.{ℕ, rules, refl, arith}
use Rattle.std.proofs.lemmas.Iterator.{YieldsList-from_range}
use Rattle.std.proofs.lemmas.Iterator.Search.{any_from_yields_List}
use borrow.Author.Tests.{tests}
use Rattle.event_file.specs.Blocks.{entry_of}
use Rattle.event_file.specs.Entries.{is_blank}
use Rattle.event_file.proofs.reader.blank_before.Goals as goal

pub returns : goal.returns
returns c =
    record {
      value = any_from_yields_List (λ (i : ℕ). is_blank (entry_of c.args.block.now i)) _ _ c.any.result c.any.ensures.ran (YieldsList-from_range 0 c.args.place c.args.place refl (omega arith)) (λ x b q k. search (rules, tests));
    }
