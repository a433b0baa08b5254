-- What a program says when it cannot go on.
--   failure_of    a failure of input or output, which may be want of memory
--   failure_text  the sentence
use Rattle.std.specs.Prelude.{ℕ, List, ◌++◌, codes, string_bytes}
use Rattle.std.specs.declared.io.ErrorKind.{ErrorKind}
use Rattle.std.specs.declared.io.ErrorKind.TheVariants.{OutOfMemory}
use Rattle.streams.specs.Causes.{cause_text}
use Rattle.streams.specs.declared.failure.Failure.{Failure}
use Rattle.streams.specs.declared.failure.Failure.TheVariants.{Arguments, File, Input, Output, Memory}

-- Want of memory is the same wherever it is met.
abbrev pub failure_of : (ErrorKind → Failure) → ErrorKind → Failure
failure_of failure OutOfMemory = Memory
failure_of failure kind = failure kind

-- What cannot be done, and why.
abbrev pub failure_text : Failure → List ℕ
failure_text (Arguments kind) = codes "the arguments cannot be read: " ++ cause_text kind
failure_text (File name kind) =
    codes "the file " ++ (string_bytes name ++ (codes " cannot be read: " ++ cause_text kind))
failure_text (Input kind) = codes "the input cannot be read: " ++ cause_text kind
failure_text (Output kind) = codes "the output cannot be written: " ++ cause_text kind
failure_text Memory = codes "there is not enough memory"
