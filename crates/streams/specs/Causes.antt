-- Why the system turned something down, in words that end a sentence.
use Rattle.std.specs.Prelude.{ℕ, List, codes}
use Rattle.std.specs.declared.io.ErrorKind.{ErrorKind}
use Rattle.std.specs.declared.io.ErrorKind.TheVariants.{NotFound, PermissionDenied, BrokenPipe, WouldBlock, NotADirectory, IsADirectory, FilesystemLoop, StaleNetworkFileHandle, InvalidInput, InvalidData, TimedOut, WriteZero, StorageFull, QuotaExceeded, FileTooLarge, ResourceBusy, InvalidFilename, ConnectionReset, Interrupted, Unsupported}

-- The cause by its kind. A kind that is none of these has no words of its own.
abbrev pub cause_text : ErrorKind → List ℕ
cause_text NotFound = codes "no such file or directory"
cause_text PermissionDenied = codes "permission denied"
cause_text BrokenPipe = codes "broken pipe"
cause_text WouldBlock = codes "not ready"
cause_text NotADirectory = codes "not a directory"
cause_text IsADirectory = codes "is a directory"
cause_text FilesystemLoop = codes "too many levels of symbolic links"
cause_text StaleNetworkFileHandle = codes "stale file handle"
cause_text InvalidInput = codes "invalid argument"
cause_text InvalidData = codes "not UTF-8"
cause_text TimedOut = codes "timed out"
cause_text WriteZero = codes "nothing more is taken"
cause_text StorageFull = codes "no space left on device"
cause_text QuotaExceeded = codes "disk quota exceeded"
cause_text FileTooLarge = codes "file too large"
cause_text ResourceBusy = codes "device or resource busy"
cause_text InvalidFilename = codes "file name too long"
cause_text ConnectionReset = codes "connection reset"
cause_text Interrupted = codes "interrupted"
cause_text Unsupported = codes "not supported"
cause_text _ = codes "the system gives another reason"
