-- What each call answers: the first of its checks that holds, place by place, or its effect.
--   subscription   a commitment or raise before the launch
--   launching      the launch
--   installation   an opening or cabling
--   billing        a commitment or raise after the launch
--   settling       a share-out
use Rattle.std.specs.Prelude.{ℕ, ◌+◌, List, [], ◌∷◌, ◌++◌, length, map}
use Rattle.refusal.specs.Checks.{Check, in_turn}
use Rattle.calendar.specs.Days.{index_of}
use Rattle.tariff.specs.Meaning.{Meaning}
use Rattle.book.specs.Members.{members_of, Addition, addition, entered_roll, whole_weight}
use Rattle.book.specs.Billing.{bill, charged}
use Rattle.book.specs.Sharing.{payout, credits, more_totals, moved_by}
use Rattle.book.specs.Zone.{Tables, counted_roll, counted_register, counted_members, preparing, launched, levied, Effect, Answer, dated, counting_operators, counting_objects, with_totals, with_roll, with_register}
use Rattle.book.specs.Refusals.{table_checks, date_checks, launched_date_checks, roll_checks, register_checks, price_checks, sheet_checks, strip_checks}
use Rattle.book.specs.declared.entries.RollEntry.{RollEntry}
use Rattle.book.specs.declared.entries.RegisterEntry.{RegisterEntry}
use Rattle.book.specs.declared.lines.Line.{Line}
use Rattle.book.specs.declared.figures.Totals.{Totals}
use Rattle.book.specs.declared.figures.Figures.{Figures}
use Rattle.book.specs.declared.event.Event.{Event}

-- Before the launch a commitment or raise enters its tranches at index 0, without charge.
abbrev pub subscription_checks : Figures → Tables → Event → List (List Check)
subscription_checks f t v =
    table_checks f t ∷
    date_checks f v.date ∷
    roll_checks f t v ∷ []

abbrev pub subscribed_roll : Figures → Tables → Event → List RollEntry
subscribed_roll f t v = entered_roll (addition 0 v (counted_members f t)) (counted_roll f t)

abbrev pub subscription_effect : Figures → Tables → Event → Effect
subscription_effect f t v = record {
  state = record {
    figures = counting_operators (length (subscribed_roll f t v)) (dated v.date f);
    phase = preparing;
    tables = with_roll t (subscribed_roll f t v);
  };
  lines = [];
}

abbrev pub subscription : Figures → Tables → Event → Answer
subscription f t v = in_turn (subscription_checks f t v) (subscription_effect f t v)

-- A launch sets the launch date and takes the tables as they are.
abbrev pub launching_checks : Figures → Tables → ℕ → List (List Check)
launching_checks f t date =
    table_checks f t ∷
    date_checks f date ∷ []

abbrev pub launching_effect : Figures → Tables → ℕ → Effect
launching_effect f t date = record {
  state = record { figures = dated date f; phase = launched date; tables = t };
  lines = [];
}

abbrev pub launching : Figures → Tables → ℕ → Answer
launching f t date = in_turn (launching_checks f t date) (launching_effect f t date)

-- An opening or cabling enters its object last and charges each operator.
abbrev pub installation_checks :
    Meaning → Figures → ℕ → Tables → ℕ → RegisterEntry → List (List Check)
installation_checks m f launch_date t places o =
    table_checks f t ∷
    launched_date_checks f launch_date o.installed ∷
    register_checks f t o ∷
    price_checks m (o ∷ []) ∷
    strip_checks places (length (charged m o (counted_members f t))) ∷ []

abbrev pub installed_register : Figures → Tables → RegisterEntry → List RegisterEntry
installed_register f t o = counted_register f t ++ o ∷ []

abbrev pub installation_effect : Meaning → Figures → ℕ → Tables → RegisterEntry → Effect
installation_effect m f launch_date t o = record {
  state = record {
    figures = counting_objects (length (installed_register f t o)) (dated o.installed f);
    phase = launched launch_date;
    tables = with_register t (installed_register f t o);
  };
  lines = charged m o (counted_members f t);
}

abbrev pub installation : Meaning → Figures → ℕ → Tables → ℕ → RegisterEntry → Answer
installation m f launch_date t places o =
    in_turn (installation_checks m f launch_date t places o)
    (installation_effect m f launch_date t o)

-- What an event adds to a launched zone: its tranches by the roll as it stands, in the year index
-- of its day.
abbrev pub added : Figures → ℕ → Tables → Event → Addition
added f launch_date t v = addition (index_of launch_date v.date) v (counted_members f t)

-- After the launch a commitment or raise bills every object and opens a levy, which keeps the
-- event; the tables stay.
abbrev pub billing_lines : Meaning → Figures → ℕ → Tables → Event → List Line
billing_lines m f launch_date t v = bill m (added f launch_date t v) (counted_register f t)

abbrev pub billing_checks : Meaning → Figures → ℕ → Tables → ℕ → Event → List (List Check)
billing_checks m f launch_date t places v =
    table_checks f t ∷
    launched_date_checks f launch_date v.date ∷
    roll_checks f t v ∷
    sheet_checks m v.date (counted_register f t) ∷
    strip_checks places (length (billing_lines m f launch_date t v)) ∷ []

abbrev pub billing_effect : Meaning → Figures → ℕ → Tables → Event → Effect
billing_effect m f launch_date t v = record {
  state = record { figures = dated v.date f; phase = levied launch_date v; tables = t };
  lines = billing_lines m f launch_date t v;
}

abbrev pub billing : Meaning → Figures → ℕ → Tables → ℕ → Event → Answer
billing m f launch_date t places v =
    in_turn (billing_checks m f launch_date t places v) (billing_effect m f launch_date t v)

-- A share-out credits the operators that the event found, then enters the event's tranches. It
-- repeats the checks of tables and roll and the prices; it has no date.
abbrev pub settling_lines : Meaning → Figures → ℕ → Tables → Event → List Line
settling_lines m f launch_date t v =
    credits m (added f launch_date t v) (counted_register f t) (counted_members f t)

abbrev pub settling_checks : Meaning → Figures → ℕ → Tables → ℕ → Event → List (List Check)
settling_checks m f launch_date t places v =
    table_checks f t ∷
    roll_checks f t v ∷
    price_checks m (counted_register f t) ∷
    strip_checks places (length (settling_lines m f launch_date t v)) ∷ []

-- A roll entry with an amount on its balance.
abbrev pub with_credit : ℕ → RollEntry → RollEntry
with_credit amount e = record e { balance = e.balance + amount }

-- Every operator's shares on its balance.
abbrev pub credited_roll : Meaning → Addition → List RegisterEntry → List RollEntry → List RollEntry
credited_roll m a objects roll =
    map
    (λ e. with_credit (payout m a (whole_weight m a.index (members_of roll)) objects e.tranches) e)
    roll

abbrev pub settled_roll : Meaning → Figures → ℕ → Tables → Event → List RollEntry
settled_roll m f launch_date t v =
    entered_roll (added f launch_date t v)
    (credited_roll m (added f launch_date t v) (counted_register f t) (counted_roll f t))

-- What a share-out moves adds to the zone's totals.
abbrev pub settled_totals : Meaning → Figures → ℕ → Tables → Event → Totals
settled_totals m f launch_date t v =
    more_totals f.totals
    (moved_by m (added f launch_date t v) (counted_register f t) (counted_members f t))

abbrev pub settling_effect : Meaning → Figures → ℕ → Tables → Event → Effect
settling_effect m f launch_date t v = record {
  state = record {
    figures =
        with_totals (settled_totals m f launch_date t v)
        (counting_operators (length (settled_roll m f launch_date t v)) f);
    phase = launched launch_date;
    tables = with_roll t (settled_roll m f launch_date t v);
  };
  lines = settling_lines m f launch_date t v;
}

abbrev pub settling : Meaning → Figures → ℕ → Tables → ℕ → Event → Answer
settling m f launch_date t places v =
    in_turn (settling_checks m f launch_date t places v) (settling_effect m f launch_date t v)
