-- What each refusal says to a person.
use Rattle.std.specs.Prelude.{ℕ, List, codes}
use Rattle.refusal.specs.declared.Refusal.{Refusal}
use Rattle.refusal.specs.declared.Refusal.TheVariants.{BadTables, NoDate, BeforeLastDate, IndexTooHigh, NoOperator, RateOutOfRange, AlreadyOnRoll, NotOnRoll, RateNotRaised, RollFull, ObjectUnusable, DwellingsOutOfRange, RegisterFull, NoPrice, NoCoefficient, StripTooShort, MetresOutOfRange, FibresOutOfRange, BadFileLength, BadBlockCheck, UnknownLetter, BlankRuleBroken, BadEntryContent, OutOfTurn, BadSheet}

abbrev pub sentence_of : Refusal → List ℕ
sentence_of BadTables =
    codes "a table is too short, an entry is outside its limits or repeated, or a total is too large"
sentence_of NoDate = codes "a date is not a calendar day from 20080101 to 20991231"
sentence_of BeforeLastDate = codes "the date is before the zone's last date"
sentence_of IndexTooHigh = codes "the date is more than 40 calendar years into the zone's life"
sentence_of NoOperator = codes "the operator number is 0"
sentence_of RateOutOfRange = codes "the rate is not from 1 to 20 tranches"
sentence_of AlreadyOnRoll = codes "the operator is on the roll already"
sentence_of NotOnRoll = codes "the operator is not on the roll"
sentence_of RateNotRaised = codes "the new rate is not above the present one"
sentence_of RollFull = codes "the roll has no place for another operator"
sentence_of ObjectUnusable = codes "the object number is 0 or in the register already"
sentence_of DwellingsOutOfRange = codes "the dwellings are not from 1 to 10000"
sentence_of RegisterFull = codes "the register has no place for another object"
sentence_of NoPrice = codes "the sheet has no price for an object"
sentence_of NoCoefficient = codes "the sheet has no coefficient for these dates"
sentence_of StripTooShort = codes "the strip has fewer places than lines to write"
sentence_of MetresOutOfRange = codes "the length is not from 1 to 16000 metres"
sentence_of FibresOutOfRange = codes "the fibres are not from 1 to 6"
sentence_of BadFileLength = codes "the file is no whole number of blocks, or too long"
sentence_of BadBlockCheck = codes "the block does not match its check"
sentence_of UnknownLetter = codes "the entry's letter is unknown"
sentence_of BlankRuleBroken = codes "a blank is not all zero, or an entry follows a blank"
sentence_of BadEntryContent = codes "the form, a field that must be zero, or the label is wrong"
sentence_of OutOfTurn = codes "an object before the launch, or a second launch"
sentence_of BadSheet =
    codes "a sheet's value or date is outside its limits, or its dates do not rise"
