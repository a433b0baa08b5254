use Rattle.std.proofs.Common.{length, vec_items, vec_len, vec_capacity, map}
use Rattle.event_file.specs.Readers.{unread}
use Rattle.file_run.specs.Steps.{shown_notice}
use Rattle.file_run.specs.Zones.{state_of}
use Rattle.file_run.proofs.Running.{Sofar}
use Rattle.file_run.proofs.reading.read_file.Given as goal

abbrev pub invariant-loop-notices : goal.invariant-loop-notices
invariant-loop-notices g l =
    Sofar (g.T.Tariff.meaning l.sheet) l.bytes (state_of l.initial.books) (unread l.reader).left (vec_len l.notices) (vec_capacity l.notices) (state_of l.books)
    (map shown_notice (vec_items l.notices))

abbrev pub decreases-loop-notices : goal.decreases-loop-notices
decreases-loop-notices g l = length (unread l.reader).left
