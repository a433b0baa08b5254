-- When a call is turned down: the checks of each place, in their order.
-- The places are tables, date, roll, register, sheet and strip, checked in that order.
--   table_checks                 1
--   date_checks, launched_date_checks   2 and 3, and 4 once the zone is launched
--   roll_checks                  5 to 10
--   register_checks              11 to 13
--   price_checks, sheet_checks   14, and 15 where coefficients are asked
--   strip_checks                 16
use Rattle.std.specs.Prelude.{ℕ, Bool, false, not, ◌&&◌, ◌||◌, leb, List, [], ◌∷◌, length, Some, None, Option, ◌==◌, nat_le, nat_lt, is_none}
use Rattle.std.specs.List.{list_any}
use Rattle.refusal.specs.Checks.{Check, ◌⇒◌}
use Rattle.refusal.specs.declared.Refusal.TheVariants.{BadTables, BeforeLastDate, IndexTooHigh, AlreadyOnRoll, NotOnRoll, RateNotRaised, RollFull, ObjectUnusable, RegisterFull, NoPrice, NoCoefficient, StripTooShort}
use Rattle.calendar.specs.Days.{is_date, index_of}
use Rattle.checks.specs.Numbers.{date_check, operator_check, rate_check, object_check, dwellings_check, bad_rate, bad_dwellings}
use Rattle.checks.specs.Tables.{one_of, has_number, is_bad_table}
use Rattle.tariff.specs.Meaning.{Meaning}
use Rattle.book.specs.Limits.{most_operators, most_objects, most_index, most_amount}
use Rattle.book.specs.Members.{rate_of, member, present_rate}
use Rattle.unit_prices.specs.Prices.{earlier}
use Rattle.book.specs.Zone.{Tables, counted_register, counted_members}
use Rattle.book.specs.declared.entries.RollEntry.{RollEntry}
use Rattle.book.specs.declared.entries.RegisterEntry.{RegisterEntry}
use Rattle.book.specs.declared.figures.Figures.{Figures}
use Rattle.book.specs.declared.event.Change.{Change}
use Rattle.book.specs.declared.event.Change.TheVariants.{Commitment, Raise}
use Rattle.book.specs.declared.event.Event.{Event}

abbrev pub huge : ℕ → Bool
huge n = nat_lt most_amount n

-- Tables. 1: a table shorter than its count, a counted entry outside its limits or repeating a
-- number, or a total, count or balance above the largest amount.
abbrev pub entry_faults : RollEntry → List Bool
entry_faults e = (e.operator == 0) ∷ bad_rate (rate_of e.tranches) ∷ huge e.balance ∷ []

abbrev pub object_faults : RegisterEntry → List Bool
object_faults o = (o.object == 0) ∷ not (is_date o.installed) ∷ bad_dwellings o.dwellings ∷ []

abbrev pub figure_faults : Figures → List Bool
figure_faults f =
    huge f.operators ∷ huge f.objects ∷ huge f.totals.contributed ∷ huge f.totals.credited ∷
    huge f.totals.unshared ∷ huge f.totals.credit_lines ∷ []

abbrev pub table_faults : Figures → Tables → List Bool
table_faults f t =
    is_bad_table (λ e. e.operator) (λ e. one_of (entry_faults e)) f.operators t.roll ∷
    is_bad_table (λ o. o.object) (λ o. one_of (object_faults o)) f.objects t.register ∷
    figure_faults f

abbrev pub table_checks : Figures → Tables → List Check
table_checks f t = (one_of (table_faults f t) ⇒ BadTables) ∷ []

-- Date. 2: no date; 3: before the last date; 4, once the zone is launched: year index above 40.
abbrev pub before : ℕ → Option ℕ → Bool
before date None = false
before date (Some last) = nat_lt date last

abbrev pub date_checks : Figures → ℕ → List Check
date_checks f date = date_check date ∷ (before date f.last ⇒ BeforeLastDate) ∷ []

abbrev pub launched_date_checks : Figures → ℕ → ℕ → List Check
launched_date_checks f launch_date date =
    date_check date ∷
    (before date f.last ⇒ BeforeLastDate) ∷
    (nat_lt most_index (index_of launch_date date) ⇒ IndexTooHigh) ∷ []

-- Roll. 5: operator 0; 6: rate outside 1 to 20; 7: commitment by one on the roll; 8: raise by one
-- not on it; 9: raise not above the present rate; 10: newcomer, and 16 entries or no place.
abbrev pub roll_full : Figures → Tables → Bool
roll_full f t = nat_le most_operators f.operators || nat_le (length t.roll) f.operators

abbrev pub change_checks : Change → Figures → Tables → Event → List Check
change_checks Commitment f t v =
    (not (is_none (member v.operator (counted_members f t))) ⇒ AlreadyOnRoll) ∷
    (roll_full f t ⇒ RollFull) ∷ []
change_checks Raise f t v =
    (is_none (member v.operator (counted_members f t)) ⇒ NotOnRoll) ∷
    (leb v.rate (present_rate v.operator (counted_members f t)) ⇒ RateNotRaised) ∷ []

abbrev pub roll_checks : Figures → Tables → Event → List Check
roll_checks f t v =
    operator_check v.operator ∷ rate_check v.rate ∷ change_checks v.change f t v

-- Register. 11: object 0 or present; 12: dwellings outside 1 to 10,000; 13: 1,024 entries or no
-- place.
abbrev pub register_full : Figures → Tables → Bool
register_full f t = nat_le most_objects f.objects || nat_le (length t.register) f.objects

abbrev pub register_checks : Figures → Tables → RegisterEntry → List Check
register_checks f t o =
    object_check o.object ∷
    (has_number (λ x. x.object) o.object (counted_register f t) ⇒ ObjectUnusable) ∷
    dwellings_check o.dwellings ∷
    (register_full f t ⇒ RegisterFull) ∷ []

-- Sheet. 14: no price for an object, over all of them; 15: no coefficient where the rule multiplies
-- by it, over all.
abbrev pub unpriced : Meaning → RegisterEntry → Bool
unpriced m o = is_none (m.price o.kind o.installed)

abbrev pub price_checks : Meaning → List RegisterEntry → List Check
price_checks m objects = (list_any (unpriced m) objects ⇒ NoPrice) ∷ []

abbrev pub unrated : Meaning → ℕ → RegisterEntry → Bool
unrated m date o = earlier o.installed date && is_none (m.coefficient o.installed date)

abbrev pub sheet_checks : Meaning → ℕ → List RegisterEntry → List Check
sheet_checks m date objects =
    (list_any (unpriced m) objects ⇒ NoPrice) ∷
    (list_any (unrated m date) objects ⇒ NoCoefficient) ∷ []

-- Strip. 16: fewer places than lines.
abbrev pub strip_checks : ℕ → ℕ → List Check
strip_checks places lines = (nat_lt places lines ⇒ StripTooShort) ∷ []
