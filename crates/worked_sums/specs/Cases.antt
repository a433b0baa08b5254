-- Examples that compute: what is billed, entered and shared.
use Rattle.std.specs.Prelude.{◌≡◌, ℕ, ◌+◌, ◌*◌, Bool, true, false, List, [], ◌∷◌, ◌++◌, take, replicate, Some, None, Option, slice_set, map}
use Rattle.tariff.specs.Meaning.{Meaning}
use Rattle.tariff.specs.declared.kinds.Kind.TheVariants.{Covered}
use Rattle.sheet_parts.specs.Rounding.{five_up}
use Rattle.book.specs.Lines.{line}
use Rattle.book.specs.Members.{rate_of}
use Rattle.book.specs.Zone.{Tables, counted_roll, State, Answer, tables_after, strip_after}
use Rattle.book.specs.Calls.{commitment, raise, launch, opening, cabling, share_out}
use Rattle.book.specs.Tally.{tallied}
use Rattle.book.specs.Runs.{blank_operator, blank_object, blank, Step, ◌on◌, answer_at, lines_in, lived, calls}
use Rattle.book.specs.declared.entries.RollEntry.{RollEntry}
use Rattle.book.specs.declared.lines.Line.{Line}
use Rattle.book.specs.declared.lines.Nature.TheVariants.{Charge, Contribution, Credit}
use Rattle.book.specs.declared.figures.Totals.{Totals}
use Rattle.worked_sums.specs.Sheets.{flat_sheet, sheet_up, sheet_of}

-- Balances and rates of the counted operators, in the roll's order.
abbrev pub balances : State → List ℕ
balances s = map (λ e. e.balance) (counted_roll s.figures s.tables)

abbrev pub rates : State → List ℕ
rates s = map (λ e. rate_of e.tranches) (counted_roll s.figures s.tables)

-- Contributed, credited, unshared and credit lines.
abbrev pub moved : Totals → List ℕ
moved t = t.contributed ∷ t.credited ∷ t.unshared ∷ t.credit_lines ∷ []

-- Two operators of 4 and 2 tranches, then the launch.
abbrev pub begun : List Step
begun = commitment 20170301 1 4 on 0 ∷ commitment 20170301 2 2 on 0 ∷ launch 20170315 on 0 ∷ []

abbrev pub launched_zone : State
launched_zone = lived sheet_up (blank 4 3) begun

-- A PM of 300 dwellings, a newcomer a year later, and an opening dated before it.
abbrev pub statement : List Step
statement =
    begun ++ (opening 20170401 7 300 on 64 ∷ commitment 20180410 3 1 on 64 ∷ share_out on 64 ∷
    opening 20180409 8 100 on 64 ∷ [])

abbrev pub statement_end : Meaning → State
statement_end m = lived m (blank 4 3) statement

-- Seven operators of one tranche each, a PM of 300 dwellings, and a newcomer a year later.
abbrev pub seven_steps : List Step
seven_steps =
    commitment 20170301 1 1 on 0 ∷ commitment 20170301 2 1 on 0 ∷ commitment 20170301 3 1 on 0 ∷
    commitment 20170301 4 1 on 0 ∷ commitment 20170301 5 1 on 0 ∷ commitment 20170301 6 1 on 0 ∷
    commitment 20170301 7 1 on 0 ∷ launch 20170315 on 0 ∷
    opening 20170401 7 300 on 7 ∷ commitment 20180410 8 1 on 2 ∷ share_out on 7 ∷ []

abbrev pub seven_end : Meaning → State
seven_end m = lived m (blank 9 1) seven_steps

-- An operator from before the launch, one of the year index 2, and a newcomer of index 3.
abbrev pub by_year : List Step
by_year =
    commitment 20170301 1 4 on 0 ∷ launch 20170315 on 0 ∷ opening 20170401 7 300 on 1 ∷
    commitment 20180410 2 2 on 2 ∷ share_out on 1 ∷
    commitment 20190101 3 1 on 2 ∷ share_out on 2 ∷ []

-- Two PMs, the second of the day of the commitments below.
abbrev pub two_objects : State
two_objects =
    lived sheet_up launched_zone (opening 20170401 7 300 on 2 ∷ opening 20180410 8 100 on 2 ∷ [])

-- An operator that commits and raises before the launch.
abbrev pub prepared_state : State
prepared_state =
    lived sheet_up (blank 4 3) (commitment 20170301 1 4 on 0 ∷ raise 20170302 1 9 on 0 ∷ [])

-- A newcomer to a zone with nobody on its roll.
abbrev pub newcomer_alone : Meaning → State
newcomer_alone m =
    lived m (blank 4 3)
    (launch 20170315 on 0 ∷ opening 20170401 7 300 on 0 ∷ commitment 20180410 3 1 on 2 ∷
    share_out on 0 ∷ [])

-- What the opening of a PM and the cabling of a site are answered in the launched zone.
abbrev pub opening_answer : ℕ → Option Answer
opening_answer places = answer_at sheet_up launched_zone (opening 20170401 7 300 on places)

abbrev pub cabling_answer : Bool → Option Answer
cabling_answer third = answer_at sheet_up launched_zone (cabling 20170401 7 third 300 on 2)

-- The lines of a commitment to two PMs.
abbrev pub billed_lines : Meaning → List Line
billed_lines m = lines_in (answer_at m two_objects (commitment 20180410 3 1 on 3))

-- The unit of each line.
abbrev pub units : List Line → List ℕ
units lines = map (λ l. l.unit) lines

-- What a place of the strip held before.
abbrev pub old_line : Line
old_line = line Credit 9 9 9 9

-- Strip and tables after a call.
abbrev pub strip_next : List Line → Option Answer → List Line
strip_next strip None = strip
strip_next strip (Some answer) = strip_after strip answer

abbrev pub tables_next : Tables → Option Answer → Tables
tables_next t None = t
tables_next t (Some answer) = tables_after t answer

-- The first operator raised by a tranche, a year after the launch, and its raise shared out.
abbrev pub raised_state : ℕ → State
raised_state contribution =
    lived (sheet_of contribution) launched_zone
    (opening 20170401 7 300 on 2 ∷ raise 20180410 1 5 on 2 ∷ share_out on 2 ∷ [])

-- The first operator with 9 tranches from before the launch.
abbrev pub first_operator : RollEntry
first_operator = record { operator = 1; tranches = slice_set (replicate 41 0) 0 9; balance = 0 }

pub record AmountsWorked (contribution : ℕ) : Type 0 where
  -- before the launch a raise adds to index 0, writes no line and keeps the other places
  pub prepared_raise : prepared_state.tables.roll ≡ first_operator ∷ replicate 3 blank_operator
  -- an opening charges price × rate, and enters its object in the first free place
  pub opening_lines :
      lines_in (opening_answer 2) ≡
      line Charge 1 7 27640000 300 ∷ line Charge 2 7 13820000 300 ∷ []
  pub opening_entry :
      (tables_next launched_zone.tables (opening_answer 2)).register ≡
      record { object = 7; kind = Covered; installed = 20170401; dwellings = 300 } ∷
      blank_object ∷ blank_object ∷ []
  -- a cabling by a third party, and one of the zone's own
  pub cabling_units :
      units (lines_in (cabling_answer true) ++ lines_in (cabling_answer false)) ≡
      64800000 ∷ 32400000 ∷ 75080000 ∷ 37540000 ∷ []
  -- a commitment to an object of an earlier day has two lines, to one of its own day one
  pub bill_lines :
      billed_lines (sheet_of contribution) ≡
      line Charge 3 7 7601000 300 ∷ line Contribution 3 7 1036500 300 ∷
      line Charge 3 8 6910000 100 ∷ []
  -- two lines even where the contribution is 0
  pub no_contribution :
      units (billed_lines (sheet_of 0)) ≡ 7601000 ∷ 0 ∷ 6910000 ∷ []
  -- the lines fill the strip from its start and later places stay;
  -- a refusal leaves strip and tables
  pub strip_filled :
      strip_next (replicate 3 old_line) (opening_answer 3) ≡
      line Charge 1 7 27640000 300 ∷ line Charge 2 7 13820000 300 ∷ old_line ∷ []
  pub strip_kept :
      strip_next (replicate 1 old_line) (opening_answer 1) ≡ replicate 1 old_line
  pub tables_kept : tables_next launched_zone.tables (opening_answer 1) ≡ launched_zone.tables
  -- a raiser shares with its old tranches, and its new one enters at the event's index
  pub raise_balances : balances (raised_state contribution) ≡ 207300000 ∷ 103650000 ∷ []
  pub raise_tranches :
      let end = raised_state contribution in
      map (λ e. take 4 e.tranches) (counted_roll end.figures end.tables) ≡
      (4 ∷ 0 ∷ 1 ∷ 0 ∷ []) ∷ (2 ∷ 0 ∷ 0 ∷ 0 ∷ []) ∷ []
  -- where nobody weighs anything all is unshared: by weights of 0, and with nobody on the roll
  pub weightless :
      moved (statement_end (flat_sheet contribution (λ index. 0) five_up)).figures.totals ≡
      310950000 ∷ 0 ∷ 310950000 ∷ 0 ∷ []
  pub nobody :
      moved (newcomer_alone (sheet_of contribution)).figures.totals ≡
      310950000 ∷ 0 ∷ 310950000 ∷ 0 ∷ []
  -- with a contribution of 0 there is no credit line and nothing is unshared
  pub nothing_to_share :
      moved (statement_end (sheet_of 0)).figures.totals ≡ 0 ∷ 0 ∷ 0 ∷ 0 ∷ []
  -- tranches of index 0 weigh 100 and those of index 2 weigh 120: 4 × 100 and 2 × 120 of 640
  pub weights_by_year :
      let m = flat_sheet contribution (λ index. 100 + 10 * index) five_up in
      balances (lived m (blank 4 3) by_year) ≡
      816243750 ∷ 116606250 ∷ 0 ∷ []
  -- the tally by itself comes to the same balances
  pub tally_balances :
      let m = sheet_of contribution in
      map (λ x. x.balance) (tallied m (calls m (blank 4 3) statement [])).members ≡
      207300000 ∷ 103650000 ∷ 0 ∷ []
