-- Examples that compute: of several conditions that hold, the first in order gives the refusal.
use Rattle.std.specs.Prelude.{◌≡◌, ℕ, false, List, [], ◌∷◌, ◌++◌, Some, None, Option, map}
use Rattle.tariff.specs.Meaning.{Meaning}
use Rattle.book.specs.Zone.{State}
use Rattle.book.specs.Calls.{Call, commitment, raise, launch, opening, cabling, share_out}
use Rattle.book.specs.Runs.{blank, ◌on◌, answer_at, said, lived}
use Rattle.worked_sums.specs.Sheets.{sheet_up}
use Rattle.worked_sums.specs.Cases.{launched_zone}

-- What each of some calls is answered from one state with a strip of some places.
abbrev pub each_told : Meaning → State → ℕ → List Call → List (Option ℕ)
each_told m s places asked = map (λ call. said (answer_at m s (call on places))) asked

-- The same zone with tables too short for what it counts.
abbrev pub short_tables : State
short_tables = record launched_zone { tables = record { roll = []; register = [] } }

-- A roll of four places, all counted.
abbrev pub full_roll : State
full_roll =
    lived sheet_up (blank 4 3)
    (commitment 20170301 1 4 on 0 ∷ commitment 20170301 2 2 on 0 ∷ commitment 20170301 3 2 on 0 ∷
    commitment 20170301 4 2 on 0 ∷ launch 20170315 on 0 ∷ [])

-- A roll of seventeen places, sixteen of them counted.
abbrev pub sixteen_operators : State
sixteen_operators =
    lived sheet_up (blank 17 1)
    (map (λ n. commitment 20170301 n 1 on 0)
    (1 ∷ 2 ∷ 3 ∷ 4 ∷ 5 ∷ 6 ∷ 7 ∷ 8 ∷ 9 ∷ 10 ∷ 11 ∷ 12 ∷ 13 ∷ 14 ∷ 15 ∷ 16 ∷ []))

-- A register of three places, all counted.
abbrev pub full_register : State
full_register =
    lived sheet_up launched_zone
    (opening 20180101 1 1 on 2 ∷ opening 20180101 2 1 on 2 ∷ opening 20180101 3 1 on 2 ∷ [])

-- A PM of 2018, and the same with a connectable site after it.
abbrev pub one_object : State
one_object = lived sheet_up launched_zone (opening 20180101 7 300 on 2 ∷ [])

abbrev pub mixed : State
mixed = lived sheet_up one_object (cabling 20190101 8 false 100 on 2 ∷ [])

-- The PM of 2018 with a newcomer of 2020, whose contribution is not yet shared out.
abbrev pub open_levy : State
open_levy = lived sheet_up one_object (commitment 20200101 3 1 on 2 ∷ [])

-- Over a sheet with no price for connectable objects and no coefficient for those of 2018.
pub record RefusalsInOrder (holed : Meaning) : Type 0 where
  -- 1 before 2
  pub tables_first : each_told sheet_up short_tables 9 (opening 0 0 0 ∷ []) ≡ Some 1 ∷ []
  -- 2, 3 and 4 before 5 and 11; the last day of index 40 passes
  pub dates :
      each_told sheet_up launched_zone 0
      (commitment 0 0 0 ∷ commitment 20170314 0 0 ∷ commitment 20570101 0 0 ∷
      commitment 20561231 0 0 ∷ opening 20570101 0 0 ∷ opening 20561231 0 0 ∷ []) ≡
      Some 2 ∷ Some 3 ∷ Some 4 ∷ Some 5 ∷ Some 4 ∷ Some 11 ∷ []
  -- 5 before 6, 6 before 8 and 7, 7 before 10; a stranger's raise; a raise to the present rate;
  -- no place; an empty register needs no strip
  pub roll :
      each_told sheet_up full_roll 0
      (raise 20170401 0 0 ∷ raise 20170401 9 0 ∷ commitment 20170401 1 21 ∷
      commitment 20170401 1 4 ∷ raise 20170401 9 3 ∷ raise 20170401 1 4 ∷
      commitment 20170401 9 4 ∷ raise 20170401 1 5 ∷ []) ≡
      Some 5 ∷ Some 6 ∷ Some 6 ∷ Some 7 ∷ Some 8 ∷ Some 9 ∷ Some 10 ∷ Some 0 ∷ []
  -- no seventeenth operator, though there is a place; one of the sixteen may raise
  pub sixteen :
      each_told sheet_up sixteen_operators 0 (commitment 20170301 17 1 ∷ raise 20170301 16 2 ∷ []) ≡
      Some 10 ∷ Some 0 ∷ []
  -- 11 before 12, 12 before 14, 14 before 16
  pub register :
      each_told holed launched_zone 0
      (cabling 20170401 0 false 0 ∷ cabling 20170401 5 false 0 ∷ cabling 20170401 5 false 1 ∷
      opening 20170401 5 1 ∷ []) ≡
      Some 11 ∷ Some 12 ∷ Some 14 ∷ Some 16 ∷ []
  -- 13 before 14
  pub full : each_told holed full_register 0 (cabling 20180101 4 false 1 ∷ []) ≡ Some 13 ∷ []
  -- 14 of a later object before 15 of an earlier one; 15 before 16; on an object's own day no
  -- coefficient is asked
  pub sheet :
      each_told holed mixed 0 (commitment 20200101 3 1 ∷ []) ++
      each_told holed one_object 0 (commitment 20200101 3 1 ∷ commitment 20180101 3 1 ∷ []) ≡
      Some 14 ∷ Some 15 ∷ Some 16 ∷ []
  -- a share-out asks no coefficient and has its own lines
  pub share_out_strip :
      each_told holed open_levy 1 (share_out ∷ []) ++ each_told holed open_levy 2 (share_out ∷ []) ≡
      Some 16 ∷ Some 0 ∷ []
  -- calls that a phase does not take
  pub not_taken :
      each_told sheet_up (blank 4 3) 9 (opening 20170401 7 300 ∷ share_out ∷ []) ++
      each_told sheet_up launched_zone 9 (launch 20170401 ∷ share_out ∷ []) ++
      each_told sheet_up open_levy 9 (raise 20200101 1 5 ∷ opening 20200101 9 1 ∷ []) ≡
      None ∷ None ∷ None ∷ None ∷ None ∷ None ∷ []
