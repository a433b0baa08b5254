-- What tables without fault say of each entry.
use Rattle.std.proofs.Common.{◌≡◌, ℕ, ◌<◌, ◌≤◌, false, List, length, get_or}
use Rattle.std.specs.List.{AllByRecursion, list_any}
use Rattle.std.proofs.ByRecursion.{All-get_or}
use Rattle.std.proofs.lemmas.Bool.{ltb-false}
use Rattle.checks.specs.Numbers.{most_tranches, most_dwellings}
use Rattle.checks.specs.Tables.{one_of}
use Rattle.checks.proofs.GoodTables.{all_fail}
use Rattle.book.specs.Limits.{most_amount}
use Rattle.book.specs.Members.{rate_of}
use Rattle.book.specs.Refusals.{entry_faults, object_faults}
use Rattle.book.specs.declared.entries.RollEntry.{RollEntry}
use Rattle.book.specs.declared.entries.RegisterEntry.{RegisterEntry}
use Rattle.book.proofs.Passing.{none_of, inside, real_of}
use Rattle.book.proofs.Totals.{all_also}
use Rattle.book.proofs.Amounts.{Sized}

-- an operator of 1 to 20 tranches, with a balance that is not too large
pub record Sound (e : RollEntry) : Type 0 where
  pub rate : rate_of e.tranches ≤ most_tranches
  pub held : e.balance ≤ most_amount

pub sound_of : (e : RollEntry) → one_of (entry_faults e) ≡ false → Sound e
sound_of e h =
    let (number, (rate, (held, end))) = all_fail (entry_faults e) h in
    let (from, to) = inside 1 (rate_of e.tranches) most_tranches rate in
    record { rate = to; held = ltb-false most_amount e.balance held }

pub all_sound : (roll : List RollEntry) → list_any (λ e. one_of (entry_faults e)) roll ≡ false → AllByRecursion Sound roll
all_sound roll h = all_also sound_of roll (none_of (λ e. one_of (entry_faults e)) roll h)

pub sound_at : (roll : List RollEntry) → list_any (λ e. one_of (entry_faults e)) roll ≡ false → (i : ℕ) (d : RollEntry) → i < length roll → Sound (get_or roll i d)
sound_at roll h i d l = All-get_or Sound roll i d l (all_sound roll h)

pub sized_of : (o : RegisterEntry) → one_of (object_faults o) ≡ false → Sized o
sized_of o h =
    let (number, (day, (dwellings, end))) = all_fail (object_faults o) h in
    let (from, to) = inside 1 o.dwellings most_dwellings dwellings in (to, real_of o.installed day)
