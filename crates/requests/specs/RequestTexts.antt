-- What is said of an item, and of a line that cannot be read.
use Rattle.std.specs.Prelude.{ℕ, List, codes}
use Rattle.requests.specs.declared.request.Item.{Item}
use Rattle.requests.specs.declared.request.Item.TheVariants.{Link, Fibre}
use Rattle.requests.specs.declared.unreadable.Unreadable.{Unreadable}
use Rattle.requests.specs.declared.unreadable.Unreadable.TheVariants.{TooLong, UnknownWord, WordCount, NoNumber, NoAmount, LargeAmount, UnknownSheet}

-- What is ordered, in one word.
abbrev pub item_text : Item → List ℕ
item_text Link = codes "LINK"
item_text Fibre = codes "FIBRE"

-- What is wrong with a line.
abbrev pub reason_text : Unreadable → List ℕ
reason_text TooLong = codes "the line is longer than 4096 bytes"
reason_text UnknownWord = codes "a line begins with link, fibre, sheet, wages, consumer or price"
reason_text WordCount = codes "the line has too few or too many words"
reason_text NoNumber = codes "a date or number is not one to nine digits"
reason_text NoAmount = codes "a price is not euros with a point and six decimals"
reason_text LargeAmount = codes
    "a price is above 4294.967295 euros, or has more than nine digits before its point"
reason_text UnknownSheet = codes "the sheet is not flat, indexed or dated"
