use Rattle.event_file.proofs.Changes.{change_is_found}
use Rattle.event_file.proofs.block.check_block.Goals as goal

pub returns-then-passes-clause-change : goal.returns-then-passes-clause-change
returns-then-passes-clause-change c = change_is_found

pub returns-else-passes-clause-change : goal.returns-else-passes-clause-change
returns-else-passes-clause-change c = change_is_found
