use Rattle.std.proofs.Common.{arith}
use Rattle.file_run.proofs.Blanks.{blanks_trimmed}
use Rattle.file_run.proofs.label.label_text.Goals as goal

pub returns : goal.returns
returns c = record { value = λ prints. grind (arith, blanks_trimmed _ _ c.trim_end_matches.ensures.matches) }
