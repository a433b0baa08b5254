-- The tally of a life: kept from the calls alone, with no zone, no tables and no strip.
--   Made      a call, and whether it was refused: all that the tally is fed
--   Tally     the launch date, the event that waits for its share-out, members, objects and totals
--   tallied   what a list of calls made comes to, the newest first
use Rattle.std.specs.Prelude.{ℕ, ◌+◌, Bool, cond, List, [], ◌∷◌, ◌++◌, Some, None, Option, map}
use Rattle.calendar.specs.Days.{index_of}
use Rattle.tariff.specs.Meaning.{Meaning}
use Rattle.book.specs.Lists.{total}
use Rattle.book.specs.Members.{Member, Addition, addition, whole_weight, entered_members}
use Rattle.book.specs.Sharing.{object_contribution, share_of, due_of, payout, left_unshared}
use Rattle.book.specs.Calls.{Call, commitment, raise, launch, opening, cabling, share_out, commitment_event, raise_event, opened, cabled}
use Rattle.book.specs.declared.entries.RegisterEntry.{RegisterEntry}
use Rattle.book.specs.declared.figures.Totals.{Totals}
use Rattle.book.specs.declared.event.Event.{Event}

pub record Made : Type 0 where
  pub call : Call
  pub refused : Bool

pub record Tally : Type 0 where
  pub launch_date : Option ℕ
  pub event : Option Event
  pub members : List Member
  pub objects : List RegisterEntry
  pub totals : Totals

-- It starts empty.
abbrev pub empty_tally : Tally
empty_tally = record {
  launch_date = None;
  event = None;
  members = [];
  objects = [];
  totals = record { contributed = 0; credited = 0; unshared = 0; credit_lines = 0 };
}

-- Launch sets its date.
abbrev pub launch_noted : ℕ → Tally → Tally
launch_noted date t = record t { launch_date = Some date; event = None }

-- An opening or cabling adds its object.
abbrev pub object_noted : RegisterEntry → Tally → Tally
object_noted o t = record t { objects = t.objects ++ o ∷ [] }

-- A commitment or raise adds its tranches at index 0, or after the launch is kept as the event.
abbrev pub event_noted : Event → Option ℕ → Tally → Tally
event_noted v None t = record t {
  launch_date = None;
  event = None;
  members = entered_members (addition 0 v t.members) t.members;
}
event_noted v (Some date) t = record t { launch_date = Some date; event = Some v }

-- A member with an amount on its balance.
abbrev pub member_credited : ℕ → Member → Member
member_credited amount x = record x { balance = x.balance + amount }

abbrev pub credited_members : Meaning → Addition → List RegisterEntry → List Member → List Member
credited_members m a objects members =
    map (λ x. member_credited (payout m a (whole_weight m a.index members) objects x.tranches) x)
    members

-- Each object's contribution adds to contributed, and to unshared if nobody weighs anything; each
-- share adds to credited, and 1 to credit lines.
abbrev pub shared_totals : Meaning → Addition → List RegisterEntry → List Member → Totals → Totals
shared_totals m a objects members before = record {
  contributed = before.contributed + total (object_contribution m a) objects;
  credited = before.credited + total
      (λ o. total (λ x. share_of m a (whole_weight m a.index members) o x.tranches) members)
      objects;
  unshared = before.unshared + left_unshared m a objects members;
  credit_lines = before.credit_lines +
      total (λ o. total (λ x. due_of m a o x.tranches) members) objects;
}

-- A share-out credits each member its shares; then the event's tranches enter at the event's index.
abbrev pub settled : Meaning → Addition → Tally → Tally
settled m a t = record t {
  event = None;
  members = entered_members a (credited_members m a t.objects t.members);
  totals = shared_totals m a t.objects t.members t.totals;
}

abbrev pub share_out_noted : Meaning → Option ℕ → Option Event → Tally → Tally
share_out_noted m None event t = t
share_out_noted m (Some date) None t = t
share_out_noted m (Some date) (Some v) t = settled m (addition (index_of date v.date) v t.members) t

abbrev pub noted : Meaning → Call → Tally → Tally
noted m (commitment date operator rate) t =
    event_noted (commitment_event date operator rate) t.launch_date t
noted m (raise date operator rate) t = event_noted (raise_event date operator rate) t.launch_date t
noted m (launch date) t = launch_noted date t
noted m (opening date object dwellings) t = object_noted (opened date object dwellings) t
noted m (cabling date object third dwellings) t =
    object_noted (cabled date object third dwellings) t
noted m share_out t = share_out_noted m t.launch_date t.event t

-- A refusal leaves it.
abbrev pub fed : Meaning → Made → Tally → Tally
fed m made t = cond made.refused t (noted m made.call t)

abbrev pub tallied : Meaning → List Made → Tally
tallied m [] = empty_tally
tallied m (made ∷ earlier) = fed m made (tallied m earlier)
