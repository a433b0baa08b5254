-- What an event comes to whose levy is shared out on strips of 1,024 places.
use Rattle.std.proofs.Common.{◌≡◌, ℕ, ◌*◌, ◌≤◌, cond, [], ◌∷◌, length, Some, None, Ok, Err, sym, refl, ap, ◌∙◌, mul-le-mul, arith}
use Rattle.std.proofs.lemmas.List.{length-take}
use Rattle.std.proofs.lemmas.Bool.{le-ltb}
use Rattle.refusal.specs.declared.Refusal.{Refusal}
use Rattle.refusal.specs.declared.Refusal.TheVariants.{StripTooShort}
use Rattle.tariff.specs.Meaning.{Meaning}
use Rattle.book.specs.Zone.{Tables, State, Answer, counted_roll, counted_register}
use Rattle.book.specs.Answers.{billing}
use Rattle.book.specs.Calls.{share_out}
use Rattle.book.specs.Promises.{launched_on}
use Rattle.book.specs.Runs.{◌on◌, answer_at, next, lived}
use Rattle.book.specs.declared.launched.LaunchedZone.{LaunchedZone}
use Rattle.book.specs.declared.event.Event.{Event}
use Rattle.at_once.specs.Steps.{Room, call_for, billed_as, most_lines}
use Rattle.at_once.specs.Steps as settling
use Rattle.at_once.proofs.Settling.{takes, tried_again}
use Rattle.file_run.specs.Taking.{strip_places, refusal_in, refusal_to, Leads}

-- the strips of a run
abbrev pub wide : Room
wide = record { bill = strip_places; first = strip_places; credits = strip_places }

same_refusal : (a : Answer) → settling.answer_refusal (Some a) ≡ refusal_in (Some a)
same_refusal (Ok effect) = refl
same_refusal (Err refusal) = refl

module _ (m : Meaning) (zone : LaunchedZone) (t : Tables) (v : Event) (room : Room) (same : room ≡ wide) (operators : length t.roll ≡ 16) (objects : length t.register ≡ 64) where
  abbrev s : State
  s = launched_on zone t

  abbrev bill : Answer
  bill = billing m zone.core.figures zone.launch_date t strip_places v

  billed : answer_at m s (call_for v on strip_places) ≡ Some bill
  billed = takes m s strip_places v

  -- with 16 operators and 64 objects at most, each line of a share-out has a place
  enough : most_lines s ≤ strip_places
  enough =
      let f = zone.core.figures in
      let few : length (counted_roll f t) ≤ 16 = omega (arith, operators, length-take f.operators t.roll) in
      let short : length (counted_register f t) ≤ 64 = omega (arith, objects, length-take f.objects t.register) in
      let product : length (counted_roll f t) * length (counted_register f t) ≤ 16 * 64 = mul-le-mul few short in
      omega (arith, product)

  -- it is refused as its call is
  refused_as : settling.event_refusal m s v room ≡ refusal_to m s (call_for v)
  refused_as =
      ap (settling.event_refusal m s v) same ∙
      ap (λ b. cond b (Some StripTooShort) (settling.answer_refusal (billed_as m s v wide))) (le-ltb strip_places (most_lines s) enough) ∙
      ap settling.answer_refusal billed ∙ same_refusal bill ∙ sym (ap refusal_in billed)

  pub leads_on : (after : State) → None ≡ settling.event_refusal m s v room → after ≡ lived m s (settling.event_steps v room) → Leads m s (call_for v) None after
  leads_on after taken done = record {
    turned_down = sym (taken ∙ refused_as);
    leads_to = done ∙ ap (λ r. lived m s (settling.event_steps v r)) same ∙ tried_again m (next s (answer_at m s (call_for v on strip_places))) strip_places;
  }

  -- a refusal changes nothing
  stays : (a : Answer) (refusal : Refusal) → refusal_in (Some a) ≡ Some refusal → s ≡ lived m (next s (Some a)) (share_out on strip_places ∷ [])
  stays (Ok effect) refusal is = let z : ◌≡◌ {A = ℕ} 0 1 = cc in absurd (omega arith)
  stays (Err no') refusal is = refl

  pub leads_nowhere : (kept : LaunchedZone) (u : Tables) (refusal : Refusal) → Some refusal ≡ settling.event_refusal m s v room → kept ≡ zone → u ≡ t →
      Leads m s (call_for v) (Some refusal) (launched_on kept u)
  leads_nowhere kept u refusal turned is held = record {
    turned_down = sym (turned ∙ refused_as);
    leads_to = (λ i. launched_on (is i) (held i)) ∙ stays bill refusal (sym (turned ∙ refused_as ∙ ap refusal_in billed)) ∙
        sym (ap (λ a. lived m (next s a) (share_out on strip_places ∷ [])) billed);
  }
