-- What a call comes to, by its answer and the share-out after it.
use Rattle.std.proofs.Common.{◌≡◌, ℕ, List, [], ◌∷◌, Some, None, Option, Ok, Err, sym, ap, ◌∙◌}
use Rattle.refusal.specs.declared.Refusal.{Refusal}
use Rattle.tariff.specs.Meaning.{Meaning}
use Rattle.book.specs.Zone.{Tables, State, Answer, Effect}
use Rattle.book.specs.Calls.{Call, share_out}
use Rattle.book.specs.Life.{answer_to}
use Rattle.book.specs.Promises.{prepared, launched_on}
use Rattle.book.specs.Runs.{◌on◌, next, lived}
use Rattle.book.specs.declared.launched.LaunchedZone.{LaunchedZone}
use Rattle.book.specs.declared.lines.Line.{Line}
use Rattle.book.specs.declared.prepared.PreparedZone.{PreparedZone}
use Rattle.file_run.specs.Taking.{strip_places, refusal_in, Leads}

-- a call that is accepted, and the share-out that is tried after it
pub accepted : (m : Meaning) (s : State) (call : Call) (effect : Effect) → ◌≡◌ {A = Option Answer} (answer_to m s strip_places call) (Some (Ok effect)) →
    Leads m s call None (lived m effect.state (share_out on strip_places ∷ []))
accepted m s call effect given =
    record { turned_down = ap refusal_in given; leads_to = sym (ap (λ a. lived m (next s a) (share_out on strip_places ∷ [])) given) }

-- a call that a zone in preparation refuses leaves zone and tables as they were
pub refused : (m : Meaning) (zone kept : PreparedZone) (t u : Tables) (call : Call) (refusal : Refusal) →
    ◌≡◌ {A = Option Answer} (answer_to m (prepared zone t) strip_places call) (Some (Err refusal)) → kept ≡ zone → u ≡ t →
    Leads m (prepared zone t) call (Some refusal) (prepared kept u)
refused m zone kept t u call refusal given same held =
    record {
      turned_down = ap refusal_in given;
      leads_to = (λ i. prepared (same i) (held i)) ∙ sym (ap (λ a. lived m (next (prepared zone t) a) (share_out on strip_places ∷ [])) given);
    }

-- a call that a launched zone accepts and stays launched, and one that it refuses
pub stays_launched : (m : Meaning) (zone after : LaunchedZone) (t u : Tables) (call : Call) (room : ℕ) (lines : List Line) → room ≡ strip_places →
    ◌≡◌ {A = Option Answer} (answer_to m (launched_on zone t) room call) (Some (Ok (record { state = launched_on after u; lines = lines }))) →
    Leads m (launched_on zone t) call None (launched_on after u)
stays_launched m zone after t u call room lines wide given =
    accepted m (launched_on zone t) call (record { state = launched_on after u; lines = lines }) (ap (λ n. answer_to m (launched_on zone t) n call) (sym wide) ∙ given)

pub refused_launched : (m : Meaning) (zone kept : LaunchedZone) (t u : Tables) (call : Call) (room : ℕ) (refusal : Refusal) → room ≡ strip_places →
    ◌≡◌ {A = Option Answer} (answer_to m (launched_on zone t) room call) (Some (Err refusal)) → kept ≡ zone → u ≡ t →
    Leads m (launched_on zone t) call (Some refusal) (launched_on kept u)
refused_launched m zone kept t u call room refusal wide given same held =
    let here = ap (λ n. answer_to m (launched_on zone t) n call) (sym wide) ∙ given in
    record {
      turned_down = ap refusal_in here;
      leads_to = (λ i. launched_on (same i) (held i)) ∙ sym (ap (λ a. lived m (next (launched_on zone t) a) (share_out on strip_places ∷ [])) here);
    }
