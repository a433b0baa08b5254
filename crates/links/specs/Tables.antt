-- The price tables of links, in euros, by the link's length and its fibres.
--   row_of          the row of a length, the first of the nine whose end it does not pass
--   initial         a link ordered ab initio, by 1 to 6 fibres
--   reference       a link's reference price, which the ex post coefficient multiplies
--   extra           an extra fibre, by the fibres first ordered: 1, 2, 3, 4, then five and more
--                   alike
--   price_at        a table's price in a row and column, in micro-euros
use Rattle.std.specs.Prelude.{ℕ, ◌+◌, ◌-◌, ◌*◌, cond, not, List, [], ◌∷◌, Result, nat_le, slice_index, slice_index_or}
use Rattle.calendar.specs.Days.{within}
use Rattle.refusal.specs.Checks.{Check, ◌⇒◌, first, unless}
use Rattle.refusal.specs.declared.Refusal.{Refusal}
use Rattle.refusal.specs.declared.Refusal.TheVariants.{MetresOutOfRange, FibresOutOfRange}

-- The longest link, in metres, and the most fibres on one.
abbrev pub most_metres : ℕ
most_metres = 16000

abbrev pub most_fibres : ℕ
most_fibres = 6

-- How many lengths the tables have a row for.
abbrev pub rows : ℕ
rows = 9

-- The length in metres up to which each row goes.
abbrev pub row_ends : List ℕ
row_ends = 1000 ∷ 2000 ∷ 4000 ∷ 6000 ∷ 8000 ∷ 10000 ∷ 12000 ∷ 14000 ∷ most_metres ∷ []

-- How many of some ends a length passes before the first that it does not.
abbrev pub ends_passed : List ℕ → ℕ → ℕ
ends_passed [] metres = 0
ends_passed (end ∷ ends) metres = cond (nat_le metres end) 0 (1 + ends_passed ends metres)

-- The row of a length, counted from 0.
abbrev pub row_of : ℕ → ℕ
row_of metres = ends_passed row_ends metres

-- Ab initio: a row for each length, a column for each of 1 to 6 fibres.
unfoldable pub initial : List (List ℕ)
initial =
    (1671 ∷ 3090 ∷ 3921 ∷ 4420 ∷ 4753 ∷ 4986 ∷ []) ∷
    (1780 ∷ 3291 ∷ 4176 ∷ 4708 ∷ 5062 ∷ 5310 ∷ []) ∷
    (1997 ∷ 3693 ∷ 4687 ∷ 5283 ∷ 5681 ∷ 5959 ∷ []) ∷
    (2287 ∷ 4229 ∷ 5368 ∷ 6051 ∷ 6506 ∷ 6825 ∷ []) ∷
    (2577 ∷ 4766 ∷ 6048 ∷ 6818 ∷ 7331 ∷ 7690 ∷ []) ∷
    (2867 ∷ 5302 ∷ 6729 ∷ 7585 ∷ 8156 ∷ 8555 ∷ []) ∷
    (3157 ∷ 5838 ∷ 7409 ∷ 8352 ∷ 8981 ∷ 9421 ∷ []) ∷
    (3447 ∷ 6374 ∷ 8090 ∷ 9119 ∷ 9806 ∷ 10286 ∷ []) ∷
    (3737 ∷ 6911 ∷ 8771 ∷ 9887 ∷ 10631 ∷ 11151 ∷ []) ∷ []

-- The reference prices, by the same rows and columns.
unfoldable pub reference : List (List ℕ)
reference =
    (1671 ∷ 3216 ∷ 4523 ∷ 5628 ∷ 6578 ∷ 7409 ∷ []) ∷
    (1780 ∷ 3425 ∷ 4817 ∷ 5994 ∷ 7006 ∷ 7891 ∷ []) ∷
    (1997 ∷ 3844 ∷ 5406 ∷ 6727 ∷ 7863 ∷ 8856 ∷ []) ∷
    (2287 ∷ 4402 ∷ 6191 ∷ 7703 ∷ 9005 ∷ 10142 ∷ []) ∷
    (2577 ∷ 4960 ∷ 6976 ∷ 8680 ∷ 10146 ∷ 11428 ∷ []) ∷
    (2867 ∷ 5518 ∷ 7761 ∷ 9657 ∷ 11288 ∷ 12714 ∷ []) ∷
    (3157 ∷ 6076 ∷ 8546 ∷ 10634 ∷ 12430 ∷ 14000 ∷ []) ∷
    (3447 ∷ 6634 ∷ 9331 ∷ 11611 ∷ 13572 ∷ 15286 ∷ []) ∷
    (3737 ∷ 7192 ∷ 10116 ∷ 12588 ∷ 14714 ∷ 16572 ∷ []) ∷ []

-- An extra fibre: a column for each of 1 to 4 fibres first ordered, and one for five and more.
unfoldable pub extra : List (List ℕ)
extra =
    (1545 ∷ 1307 ∷ 1105 ∷ 951 ∷ 831 ∷ []) ∷
    (1645 ∷ 1392 ∷ 1177 ∷ 1012 ∷ 885 ∷ []) ∷
    (1847 ∷ 1562 ∷ 1321 ∷ 1136 ∷ 993 ∷ []) ∷
    (2115 ∷ 1789 ∷ 1513 ∷ 1301 ∷ 1137 ∷ []) ∷
    (2383 ∷ 2016 ∷ 1704 ∷ 1466 ∷ 1282 ∷ []) ∷
    (2651 ∷ 2243 ∷ 1896 ∷ 1631 ∷ 1426 ∷ []) ∷
    (2919 ∷ 2470 ∷ 2088 ∷ 1796 ∷ 1570 ∷ []) ∷
    (3187 ∷ 2697 ∷ 2280 ∷ 1961 ∷ 1714 ∷ []) ∷
    (3455 ∷ 2924 ∷ 2472 ∷ 2126 ∷ 1859 ∷ []) ∷ []

-- A table's price in a row and column, both counted from 0, in micro-euros.
abbrev pub price_at : List (List ℕ) → ℕ → ℕ → ℕ
price_at table row column = slice_index (slice_index_or table row []) column * 1000000

-- A length of 1 to 16,000 metres has a row.
abbrev pub metres_check : ℕ → Check
metres_check metres = not (within 1 metres most_metres) ⇒ MetresOutOfRange

-- A link has 1 to 6 fibres.
abbrev pub fibres_check : ℕ → Check
fibres_check fibres = not (within 1 fibres most_fibres) ⇒ FibresOutOfRange

-- The row of a length, or its refusal.
abbrev pub row_checked : ℕ → Result ℕ Refusal
row_checked metres = unless (first (metres_check metres ∷ [])) (row_of metres)

-- The column of a number of fibres, or its refusal.
abbrev pub column_checked : ℕ → Result ℕ Refusal
column_checked fibres = unless (first (fibres_check fibres ∷ [])) (fibres - 1)
