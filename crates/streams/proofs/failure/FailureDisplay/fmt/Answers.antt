use Rattle.std.proofs.Common.{sym}
use Rattle.streams.proofs.failure.FailureDisplay.fmt.Goals as goal

pub returns-in-File-clause-writes : goal.returns-in-File-clause-writes
returns-in-File-clause-writes g c = λ plain done.
    rw (c.in-File.is, sym c.as_str-name.ensures.value, sym c.cause-cause-in-File.ensures.value)
    (c.write-in-File.ensures.writes plain done)
