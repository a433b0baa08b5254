-- Sums worked by hand, as facts of the definitions.
use Rattle.std.specs.Prelude.{◌≡◌, ℕ, ◌+◌, ◌*◌, List, [], ◌∷◌, ◌++◌, Some, None, Option, replicate, slice_index, map}
use Rattle.calendar.specs.Days.{index_of}
use Rattle.series.specs.declared.rows.Dated.{Dated}
use Rattle.series.specs.declared.limits.IndexNumber.{IndexNumber}
use Rattle.tariff.specs.Meaning.{Meaning}
use Rattle.sheet_parts.specs.Rounding.{five_down, five_up}
use Rattle.sheet_parts.specs.Row.{in_1200ths, common_row, coefficient_after}
use Rattle.sheets.specs.Flat.{flat}
use Rattle.sheets.specs.DatedSheets.{dated}
use Rattle.sheets.specs.Network.{network_records}
use Rattle.sheets.specs.IndexedSheets.{indexed}
use Rattle.tariff.specs.declared.kinds.Kind.{Kind}
use Rattle.tariff.specs.declared.kinds.Kind.TheVariants.{Connectable}
use Rattle.tariff.specs.declared.kinds.Coefficient.{Coefficient}
use Rattle.sheet_parts.specs.declared.given.Prices.{Prices}
use Rattle.sheet_parts.specs.declared.given.Terms.{Terms}
use Rattle.book.specs.Lists.{total}
use Rattle.book.specs.Members.{Member, Addition, weight_to}
use Rattle.book.specs.Sharing.{object_contribution, credits}
use Rattle.book.specs.Calls.{opened, commitment, raise, launch, opening, share_out}
use Rattle.book.specs.Zone.{counted_members}
use Rattle.book.specs.Runs.{blank, Step, ◌on◌, lived}
use Rattle.book.specs.declared.entries.RegisterEntry.{RegisterEntry}
use Rattle.worked_sums.specs.Sheets.{flat_sheet}
use Rattle.worked_sums.specs.Cases.{balances}

-- The coefficient of the common row after a number of months is so many 1,200ths.
abbrev pub RowGives : ℕ → ℕ → Type 0
RowGives months n = coefficient_after common_row months ≡ Some (in_1200ths n)

abbrev pub scaled : Meaning → Option ℕ → Option Coefficient → Option ℕ
scaled m None by = None
scaled m (Some price) None = None
scaled m (Some price) (Some by) = Some (m.rounded (price * by.numerator) by.denominator)

-- What a sheet makes of one tranche and dwelling: its price times its coefficient, rounded.
abbrev pub one_tranche : Meaning → Kind → ℕ → ℕ → Option ℕ
one_tranche m kind installed receipt =
    scaled m (m.price kind installed) (m.coefficient installed receipt)

-- Prices of which only the connectable one is asked.
abbrev pub connectable_at : ℕ → Prices
connectable_at price = record { covered = 1; connectable = price; third = 1 }

-- Terms of which none is asked.
abbrev pub no_terms : Terms
no_terms = record { contribution = 0; weights = replicate 41 0 }

-- An index that stands at one number from the start of 2020, and at another from the start of 2021.
abbrev pub risen : ℕ → ℕ → List (Dated IndexNumber)
risen first second =
    record { date = 20200101; value = record { 0 = first } } ∷
    record { date = 20210101; value = record { 0 = second } } ∷ []

-- An operator with one tranche from before the launch.
abbrev pub of_one_tranche : ℕ → Member
of_one_tranche operator = record { operator = operator; tranches = 1 ∷ []; balance = 0 }

abbrev pub seven : List Member
seven = map of_one_tranche (1 ∷ 2 ∷ 3 ∷ 4 ∷ 5 ∷ 6 ∷ 7 ∷ [])

-- An eighth takes one tranche a year after a PM of 300 dwellings was opened.
abbrev pub eighth : Addition
eighth = record { operator = 8; date = 20180410; index = 2; tranches = 1 }

abbrev pub cabinet : RegisterEntry
cabinet = opened 20170401 7 300

-- What the seven get together, by a rounding: contribution 15, every weight 100.
abbrev pub seven_get : (ℕ → ℕ → ℕ) → ℕ
seven_get rounded =
    total (λ l. l.total)
    (credits (flat_sheet 15 (λ index. 100) rounded) eighth (cabinet ∷ []) seven)

-- Weights that fall by the year. Operator 1 takes 15% and operator 2 takes 5% before a launch on
-- 31 March 2012; a PM of 100 dwellings is opened the day after; operator 2 takes 10% more in 2013,
-- operator 3 takes 5% in 2015.
abbrev pub falling : ℕ → ℕ
falling index = slice_index (100 ∷ 91 ∷ 82 ∷ 74 ∷ 67 ∷ []) index

abbrev pub falling_sheet : Meaning
falling_sheet = flat_sheet 15 falling five_up

abbrev pub in_2013 : List Step
in_2013 =
    commitment 20120301 1 3 on 0 ∷ commitment 20120301 2 1 on 0 ∷ launch 20120331 on 0 ∷
    opening 20120401 7 100 on 2 ∷ raise 20130501 2 3 on 2 ∷ []

abbrev pub in_2015 : List Step
in_2015 = in_2013 ++ (share_out on 2 ∷ commitment 20150601 3 1 on 2 ∷ [])

-- What each operator weighs in a year index, at the end of some calls.
abbrev pub weights_after : List Step → ℕ → List ℕ
weights_after steps index =
    let end = lived falling_sheet (blank 4 3) steps in
    map (λ x. weight_to falling_sheet index x.tranches) (counted_members end.figures end.tables)

pub record WorkedSums : Type 0 where
  pub months_0 : RowGives 0 1200
  pub months_3 : RowGives 3 1230
  pub months_18 : RowGives 18 1368
  pub months_65 : RowGives 65 1531
  pub months_239 : RowGives 239 300
  -- 19.149661 euros after three months are 19.628402525
  pub down : five_down (19149661 * 1230) 1200 ≡ 19628402
  pub up : five_up (19149661 * 1230) 1200 ≡ 19628403
  -- the same on a flat sheet, and on the network's dated one
  pub on_flat :
      one_tranche (flat (connectable_at 19149661) no_terms) Connectable 20220901 20221231 ≡
      Some 19628402
  pub on_dated :
      one_tranche (dated network_records no_terms) Connectable 20220901 20221231 ≡
      Some 19628403
  -- 16.91 euros after 18 months, wages from 1000 to 1040, consumer prices from 1000 to 1020
  pub on_indexed :
      one_tranche
      (indexed (connectable_at 16910000) no_terms (risen 1000 1040) (risen 1000 1020))
      Connectable 20200115 20210720 ≡
      Some 19662948
  -- a zone launched on 20170315
  pub day_after_launch : index_of 20170315 20170316 ≡ 1
  pub year_after_launch : index_of 20170315 20180101 ≡ 2
  -- 310.95 euros among seven equal weights: 4 micro-euros are held five-down, 3 too many are paid
  -- five-up
  pub contributed :
      object_contribution (flat_sheet 15 (λ index. 100) five_down) eighth cabinet ≡ 310950000
  pub seven_down : seven_get five_down + 4 ≡ 310950000
  pub seven_up : seven_get five_up ≡ 310950000 + 3
  -- quotas of 15/20 and 5/20 of what comes in 2013, then 1500/2820 and 1320/2820 of what comes in
  -- 2015, by tranches of 5%
  pub quotas_2013 : weights_after in_2013 2 ≡ (3 * 100) ∷ (1 * 100) ∷ []
  pub quotas_2015 : weights_after in_2015 4 ≡ (3 * 100) ∷ (1 * 100 + 2 * 82) ∷ []
  -- 207.30 euros and then 103.65
  pub quota_balances :
      balances (lived falling_sheet (blank 4 3) (in_2015 ++ (share_out on 2 ∷ []))) ≡
      (155475000 + 55132979) ∷ (51825000 + 48517021) ∷ 0 ∷ []
