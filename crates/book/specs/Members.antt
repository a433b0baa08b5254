-- The operators of a zone, by what the rules of billing and sharing know of them.
--   Member         an operator's number, its tranches by year index, its balance
--   rate_of        tranches of all years together
--   weight_to      tranches by year weight, up to a year index
--   present_rate   the rate that an operator has, 0 where it has none
--   Addition       what a commitment or raise adds: k tranches of an operator, on a day in a year
--                  index
--   entered_roll, entered_members   the operators with such tranches added
use Rattle.std.specs.Prelude.{ℕ, ◌+◌, ◌-◌, ◌*◌, List, [], ◌∷◌, take, replicate, Some, None, Option, nat_eq, slice_index, slice_set, find, map}
use Rattle.tariff.specs.Meaning.{Meaning}
use Rattle.book.specs.Limits.{years}
use Rattle.book.specs.Lists.{total, placed}
use Rattle.book.specs.declared.entries.RollEntry.{RollEntry}
use Rattle.book.specs.declared.event.Event.{Event}

pub record Member : Type 0 where
  pub operator : ℕ
  pub tranches : List ℕ
  pub balance : ℕ

-- A roll entry as a member.
abbrev pub member_of : RollEntry → Member
member_of e = record { operator = e.operator; tranches = e.tranches; balance = e.balance }

abbrev pub members_of : List RollEntry → List Member
members_of roll = map member_of roll

-- A rate is the tranches of all years together.
abbrev pub rate_of : List ℕ → ℕ
rate_of tranches = total (λ t. t) tranches

-- Tranches by the weight of their years, from a year index on.
abbrev pub weighed : (ℕ → ℕ) → ℕ → List ℕ → ℕ
weighed weight index [] = 0
weighed weight index (t ∷ ts) = t * weight index + weighed weight (index + 1) ts

-- An operator's weight is the sum of its tranches times the weight of their year, up to a year
-- index.
abbrev pub weight_to : Meaning → ℕ → List ℕ → ℕ
weight_to m index tranches = weighed m.weight 0 (take (index + 1) tranches)

-- The weight of all operators together.
abbrev pub whole_weight : Meaning → ℕ → List Member → ℕ
whole_weight m index members = total (λ x. weight_to m index x.tranches) members

abbrev pub member : ℕ → List Member → Option Member
member operator members = find (λ x. nat_eq x.operator operator) members

abbrev pub tranches_found : Option Member → List ℕ
tranches_found None = []
tranches_found (Some x) = x.tranches

-- The tranches that an operator has, none where it is no member.
abbrev pub tranches_of : ℕ → List Member → List ℕ
tranches_of operator members = tranches_found (member operator members)

abbrev pub present_rate : ℕ → List Member → ℕ
present_rate operator members = rate_of (tranches_of operator members)

-- What a commitment or raise adds: the operator, the day, the year index on that day, and the
-- tranches.
pub record Addition : Type 0 where
  pub operator : ℕ
  pub date : ℕ
  pub index : ℕ
  pub tranches : ℕ

-- An event adds the tranches by which its rate exceeds the present one.
abbrev pub addition : ℕ → Event → List Member → Addition
addition index v members =
    record {
      operator = v.operator;
      date = v.date;
      index = index;
      tranches = v.rate - present_rate v.operator members;
    }

-- Tranches are added in the year index of their event.
abbrev pub more_tranches : Addition → List ℕ → List ℕ
more_tranches a tranches = slice_set tranches a.index (slice_index tranches a.index + a.tranches)

abbrev pub first_tranches : Addition → List ℕ
first_tranches a = more_tranches a (replicate years 0)

-- A roll entry with tranches added, and a new one with balance 0.
abbrev pub subscribed : Addition → RollEntry → RollEntry
subscribed a e = record e { tranches = more_tranches a e.tranches }

abbrev pub newcomer : Addition → RollEntry
newcomer a = record { operator = a.operator; tranches = first_tranches a; balance = 0 }

-- An operator on the roll has them added to its own; a new one stands last.
abbrev pub entered_roll : Addition → List RollEntry → List RollEntry
entered_roll a roll = placed (λ e. e.operator) a.operator (subscribed a) (newcomer a) roll

-- The same of members.
abbrev pub member_subscribed : Addition → Member → Member
member_subscribed a x = record x { tranches = more_tranches a x.tranches }

abbrev pub new_member : Addition → Member
new_member a = record { operator = a.operator; tranches = first_tranches a; balance = 0 }

abbrev pub entered_members : Addition → List Member → List Member
entered_members a members = placed (λ x. x.operator) a.operator (member_subscribed a)
    (new_member a) members
