-- A levy with room for its share-out is never left open.
use Rattle.std.proofs.Common.{◌≡◌, ℕ, ◌*◌, ◌≤◌, List, length, Ok, Err, sym, ap, ◌∙◌, arith}
use Rattle.refusal.specs.declared.Refusal.{Refusal}
use Rattle.tariff.specs.Meaning.{Meaning}
use Rattle.book.specs.Zone.{Tables, Phase, preparing, launched, levied, Effect, Answer, counted_register, counted_members}
use Rattle.book.specs.Answers.{added, billing, billing_checks, billing_effect, settling}
use Rattle.book.specs.Promises.{levied_on}
use Rattle.book.specs.declared.lines.Line.{Line}
use Rattle.book.specs.declared.event.Event.{Event}
use Rattle.book.specs.declared.figures.Figures.{Figures}
use Rattle.book.specs.declared.levy.OpenLevy.{OpenLevy}
use Rattle.book.proofs.Passing.{accepted_is}
use Rattle.book.proofs.Counting.{lines_counted}
use Rattle.book.proofs.Following.{share_out_follows}

-- launch date and event of a phase, and whether an answer is one of acceptance
abbrev day_in : Phase → ℕ
day_in preparing = 0
day_in (launched day) = day
day_in (levied day event) = day

abbrev event_in : Event → Phase → Event
event_in v preparing = v
event_in v (launched day) = v
event_in v (levied day event) = event

abbrev is_ok : Answer → ℕ
is_ok (Ok effect) = 1
is_ok (Err refusal) = 0

-- With a place for each operator and each object together, the share-out of a levy on the tables that it was billed on is never refused.
pub never_refused : (m : Meaning) (f : Figures) (day : ℕ) (levy : OpenLevy) (t : Tables) (places room : ℕ) (v : Event) (lines : List Line) (refusal : Refusal) →
    ◌≡◌ {A = Answer} (Ok (record { state = levied_on levy t; lines = lines })) (billing m f day t places v) →
    ◌≡◌ {A = Answer} (Err refusal) (settling m levy.zone.core.figures levy.zone.launch_date t room levy.event) →
    length (counted_members levy.zone.core.figures t) * length (counted_register levy.zone.core.figures t) ≤ room → ⊥
never_refused m f day levy t places room v lines refusal billed refused enough =
    let effect : Effect = record { state = levied_on levy t; lines = lines } in
    let g = levy.zone.core.figures in
    let same = (accepted_is (billing_checks m f day t places v) (billing_effect m f day t v) effect (sym billed)).1 in
    let launch : day ≡ levy.zone.launch_date = ap (λ (e : Effect). day_in e.state.phase) same in
    let event : v ≡ levy.event = ap (λ (e : Effect). event_in v e.state.phase) same in
    let most = lines_counted.credited m (added g day t v) (counted_register g t) (counted_members g t) in
    let shared = (share_out_follows m f day t places v effect (sym billed) room).enough (omega (arith, most, enough)) in
    let here = ap is_ok shared in
    let there = ap is_ok (refused ∙ (λ i. settling m g (sym launch i) t room (sym event i))) in
    absurd (omega (arith, here, there))
