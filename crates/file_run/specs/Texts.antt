-- The text of a refusal in a report: its number, its place and, if there is one, the text of its
-- label.
use Rattle.std.specs.Prelude.{ℕ, List, [], ◌∷◌, ◌++◌, codes, decimal}
use Rattle.refusal.specs.Numbers.{number_of}
use Rattle.event_file.specs.Places.{block_number, entry_number}
use Rattle.file_run.specs.Reports.{ShownNotice}

-- A label follows after a blank; without one the text ends with the entry's number.
abbrev pub gap_before : List ℕ → List ℕ
gap_before [] = []
gap_before (b ∷ bs) = codes " "

abbrev pub notice_text : ShownNotice → List ℕ
notice_text n =
    codes "REFUSED " ++ (decimal (number_of n.fault.refusal) ++
    (codes " BLOCK " ++ (decimal (block_number n.fault.place) ++
    (codes " ENTRY " ++ (decimal (entry_number n.fault.place) ++
    (gap_before n.label ++ n.label))))))
