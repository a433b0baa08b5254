-- The number of each refusal.
use Rattle.std.specs.Prelude.{ℕ}
use Rattle.refusal.specs.declared.Refusal.{Refusal}
use Rattle.refusal.specs.declared.Refusal.TheVariants.{BadTables, NoDate, BeforeLastDate, IndexTooHigh, NoOperator, RateOutOfRange, AlreadyOnRoll, NotOnRoll, RateNotRaised, RollFull, ObjectUnusable, DwellingsOutOfRange, RegisterFull, NoPrice, NoCoefficient, StripTooShort, MetresOutOfRange, FibresOutOfRange, BadFileLength, BadBlockCheck, UnknownLetter, BlankRuleBroken, BadEntryContent, OutOfTurn, BadSheet}

abbrev pub number_of : Refusal → ℕ
number_of BadTables = 1
number_of NoDate = 2
number_of BeforeLastDate = 3
number_of IndexTooHigh = 4
number_of NoOperator = 5
number_of RateOutOfRange = 6
number_of AlreadyOnRoll = 7
number_of NotOnRoll = 8
number_of RateNotRaised = 9
number_of RollFull = 10
number_of ObjectUnusable = 11
number_of DwellingsOutOfRange = 12
number_of RegisterFull = 13
number_of NoPrice = 14
number_of NoCoefficient = 15
number_of StripTooShort = 16
number_of MetresOutOfRange = 17
number_of FibresOutOfRange = 18
number_of BadFileLength = 19
number_of BadBlockCheck = 20
number_of UnknownLetter = 21
number_of BlankRuleBroken = 22
number_of BadEntryContent = 23
number_of OutOfTurn = 24
number_of BadSheet = 25
