-- The calls of a zone's life, by their arguments except zone, tables and strip.
use Rattle.std.specs.Prelude.{ℕ, Bool, true, false}
use Rattle.tariff.specs.declared.kinds.Kind.{Kind}
use Rattle.tariff.specs.declared.kinds.Kind.TheVariants.{Covered, Connectable, ThirdParty}
use Rattle.book.specs.declared.entries.RegisterEntry.{RegisterEntry}
use Rattle.book.specs.declared.event.Change.TheVariants.{Commitment, Raise}
use Rattle.book.specs.declared.event.Event.{Event}

pub data Call : Type 0 where
  commitment : (date operator rate : ℕ) → Call
  raise : (date operator rate : ℕ) → Call
  launch : (date : ℕ) → Call
  opening : (date object dwellings : ℕ) → Call
  cabling : (date object : ℕ) (third : Bool) (dwellings : ℕ) → Call
  share_out : Call

-- The event of a commitment and of a raise.
abbrev pub commitment_event : ℕ → ℕ → ℕ → Event
commitment_event date operator rate =
    record { change = Commitment; date = date; operator = operator; rate = rate }

abbrev pub raise_event : ℕ → ℕ → ℕ → Event
raise_event date operator rate =
    record { change = Raise; date = date; operator = operator; rate = rate }

-- An opening enters a PM, which covers its dwellings; a cabling enters a site, by a third party or
-- not.
abbrev pub opened : ℕ → ℕ → ℕ → RegisterEntry
opened date object dwellings =
    record { object = object; kind = Covered; installed = date; dwellings = dwellings }

abbrev pub site_kind : Bool → Kind
site_kind true = ThirdParty
site_kind false = Connectable

abbrev pub cabled : ℕ → ℕ → Bool → ℕ → RegisterEntry
cabled date object third dwellings =
    record { object = object; kind = site_kind third; installed = date; dwellings = dwellings }
