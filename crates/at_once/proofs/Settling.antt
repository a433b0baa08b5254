-- What an event comes to whose levy is shared out at once, by the answers of its calls.
use Rattle.std.proofs.Common.{◌≡◌, ℕ, ◌*◌, ◌≤◌, min, List, [], ◌∷◌, ◌++◌, length, take, drop, Some, None, Ok, Err, Option, sym, refl, ap, ◌∙◌, subst, append_assoc, append-nil, mul-le-mul, arith}
use Rattle.std.specs.Option.{option_map}
use Rattle.std.proofs.lemmas.List.{length-take, length-map, take-append-drop, drop-append-le}
use Rattle.refusal.specs.declared.Refusal.{Refusal}
use Rattle.tariff.specs.Meaning.{Meaning, Lawful}
use Rattle.book.specs.Limits.{most_operators, most_objects}
use Rattle.book.specs.Lists.{written}
use Rattle.book.specs.Members.{member_of}
use Rattle.book.specs.Zone.{Tables, Phase, preparing, launched, levied, State, Effect, Answer, strip_after, counted_roll, counted_register, counted_members}
use Rattle.book.specs.Answers.{billing, billing_checks, billing_effect, settling, settling_checks, settling_effect}
use Rattle.book.specs.Calls.{Call, share_out}
use Rattle.book.specs.Life.{answer_to, answer_to_event}
use Rattle.book.specs.Promises.{launched_on, levied_on, line_count, IsAnswered}
use Rattle.book.specs.Runs.{◌on◌, answer_at, lines_in, next, lived, calls}
use Rattle.book.specs.declared.entries.RollEntry.{RollEntry}
use Rattle.book.specs.declared.launched.LaunchedZone.{LaunchedZone}
use Rattle.book.specs.declared.levy.OpenLevy.{OpenLevy}
use Rattle.book.specs.declared.lines.Line.{Line}
use Rattle.book.specs.declared.event.Change.{Change}
use Rattle.book.specs.declared.event.Change.TheVariants.{Commitment, Raise}
use Rattle.book.specs.declared.event.Event.{Event}
use Rattle.book.specs.declared.figures.Figures.{Figures}
use Rattle.book.proofs.Accounts.{every_life_accounted}
use Rattle.book.proofs.Ending.{never_refused}
use Rattle.book.proofs.Passing.{accepted_is}
use Rattle.book.proofs.Stepping.{lives}
use Rattle.at_once.specs.Steps.{Strips, strips, Room, room_on, change_call, call_for, share_outs, event_steps, most_lines, answer_refusal, lines_of}
use Rattle.at_once.specs.Promises.{IsFilled, IsSettled, LivesOnBy}

-- every life goes on by an event and its share-outs
pub event_lives : (m : Meaning) → Lawful m → (zone : LaunchedZone) (t : Tables) (v : Event) (first : ℕ) (before : Strips) →
    LivesOnBy m (launched_on zone t) (event_steps v (room_on before first))
event_lives m law zone t v first before made life =
    let s = launched_on zone t in
    let steps = event_steps v (room_on before first) in
    let more = lives m steps s made life in (more, every_life_accounted m law (calls m s steps made) (lived m s steps) more)

-- no share-out of a zone has more lines than its limits allow
pub few_lines : (zone : LaunchedZone) (t : Tables) → most_lines (launched_on zone t) ≤ most_operators * most_objects
few_lines zone t =
    let core = zone.core in
    let operators : length (counted_roll core.figures t) ≤ most_operators = omega (arith, core.few_operators, length-take core.figures.operators t.roll) in
    let objects : length (counted_register core.figures t) ≤ most_objects = omega (arith, core.few_objects, length-take core.figures.objects t.register) in
    mul-le-mul operators objects

-- the code's product is their number
pub counted_lines : (zone : LaunchedZone) (t : Tables) (f : Figures) (operators objects : ℕ) → f ≡ zone.core.figures →
    operators ≡ min f.operators (length t.roll) → objects ≡ min f.objects (length t.register) → operators * objects ≡ most_lines (launched_on zone t)
counted_lines zone t f operators objects same counted listed =
    let members : operators ≡ length (counted_roll zone.core.figures t) =
    counted ∙ sym (length-take f.operators t.roll) ∙ ap (λ (x : Figures). length (counted_roll x t)) same in
    let register : objects ≡ length (counted_register zone.core.figures t) =
    listed ∙ sym (length-take f.objects t.register) ∙ ap (λ (x : Figures). length (counted_register x t)) same in
    λ i. members i * register i

-- the call of an event bills it, or subscribes before the launch
takes_change : (m : Meaning) (s : State) (places : ℕ) (change : Change) (date operator rate : ℕ) → answer_to m s places (change_call change date operator rate) ≡
    answer_to_event m s.figures s.tables places (record { change = change; date = date; operator = operator; rate = rate }) s.phase
takes_change m s places Commitment date operator rate = refl
takes_change m s places Raise date operator rate = refl

pub takes : (m : Meaning) (s : State) (places : ℕ) (v : Event) → answer_to m s places (call_for v) ≡ answer_to_event m s.figures s.tables places v s.phase
takes m s places v = takes_change m s places v.change v.date v.operator v.rate

-- a share-out that is tried again on as many places changes nothing
abbrev in_phase : Figures → Phase → Tables → State
in_phase f phase t = record { figures = f; phase = phase; tables = t }

tried : (m : Meaning) (f : Figures) (phase : Phase) (t : Tables) (places : ℕ) →
    lived m (in_phase f phase t) (share_out on places ∷ share_out on places ∷ []) ≡ lived m (in_phase f phase t) (share_out on places ∷ [])
tried m f preparing t places = refl
tried m f (launched day) t places = refl
tried m f (levied day v) t places = go (settling m f day t places v) refl
  where
    go : (a : Answer) → settling m f day t places v ≡ a →
        next (next (in_phase f (levied day v) t) (Some a)) (answer_at m (next (in_phase f (levied day v) t) (Some a)) (share_out on places)) ≡ next (in_phase f (levied day v) t) (Some a)
    go (Ok effect) is =
        let same = (accepted_is (settling_checks m f day t places v) (settling_effect m f day t v) effect is).1 in
        subst (λ (e : Effect). next e.state (answer_at m e.state (share_out on places)) ≡ e.state) same refl
    go (Err refusal) is = ap (λ a. next (in_phase f (levied day v) t) (Some a)) is

pub tried_again : (m : Meaning) (s : State) (places : ℕ) → lived m s (share_out on places ∷ share_out on places ∷ []) ≡ lived m s (share_out on places ∷ [])
tried_again m s places = tried m s.figures s.phase s.tables places

-- an answer that says what it wrote, as facts of its lines
abbrev accepted : State → ℕ → List Line → Answer
accepted state number strip = Ok (record { state = state; lines = take number strip })

filled : (m : Meaning) (s to : State) (call : Call) (before after : List Line) (number : ℕ) →
    IsAnswered m s call before after number (accepted to number after) → IsFilled (take number after) before after number
filled m s to call before after number is =
    let strip : ◌≡◌ {A = Option (List Line)} (Some (written (take number after) before)) (Some after) = sym (ap (option_map (strip_after before)) is.given) ∙ is.strip in
    let count : ◌≡◌ {A = Option ℕ} (Some (length (take number after))) (Some number) = sym (ap (option_map line_count) is.given) ∙ is.count in
    record { strip = cc; count = cc }

-- a refused call writes nothing
pub unwritten : (m : Meaning) (s : State) (call : Call) (before after : List Line) (number : ℕ) (refusal : Refusal) →
    IsAnswered m s call before after number (Err refusal) → after ≡ before
unwritten m s call before after number refusal is =
    let strip : ◌≡◌ {A = Option (List Line)} (Some before) (Some after) = sym (ap (option_map (strip_after before)) is.given) ∙ is.strip in cc

-- lines on the first places of a strip are lines on the strip
widened : (lines strip : List Line) (few : ℕ) → length lines ≤ length (take few strip) → written lines (take few strip) ++ drop few strip ≡ written lines strip
widened lines strip few enough =
    let rest : drop (length lines) strip ≡ drop (length lines) (take few strip) ++ drop few strip =
    ap (drop (length lines)) (sym (take-append-drop few strip)) ∙ drop-append-le (length lines) (take few strip) (drop few strip) enough in
    append_assoc lines (drop (length lines) (take few strip)) (drop few strip) ∙ ap (λ l. lines ++ l) (sym rest)

module _ (m : Meaning) (zone : LaunchedZone) (t : Tables) (v : Event) (first : ℕ) (before : Strips) (levy : OpenLevy) (billed : ℕ) (bill : List Line)
    (bills : IsAnswered m (launched_on zone t) (call_for v) before.bill bill billed (accepted (levied_on levy t) billed bill)) where
  abbrev room : Room
  room = room_on before first

  abbrev s : State
  s = launched_on zone t

  abbrev open_levy : State
  open_levy = levied_on levy t

  bill_filled : IsFilled (lines_in (answer_at m s (call_for v on room.bill))) before.bill bill billed
  bill_filled = subst (λ a. IsFilled (lines_in a) before.bill bill billed) (sym bills.given) (filled m s open_levy (call_for v) before.bill bill billed bills)

  -- the first share-out is accepted
  module _ (few : ℕ) (fits : few ≡ min first (length before.credits)) (done : LaunchedZone) (after : Tables) (credited : ℕ) (part : List Line)
      (as_long : length part ≡ length (take few before.credits))
      (shares : IsAnswered m open_levy share_out (take few before.credits) part credited (accepted (launched_on done after) credited part)) where
    taken : answer_at m open_levy (share_out on room.first) ≡ Some (accepted (launched_on done after) credited part)
    taken =
        let places : room.first ≡ length (take few before.credits) = omega (arith, fits, length-take few before.credits) in
        ap (λ n. answer_to m open_levy n share_out) places ∙ shares.given

    pub settled_at_first : IsSettled m s v first before (strips bill (part ++ drop few before.credits)) after
        (record { zone = done; billed = billed; turned_down = None; credited = credited })
    settled_at_first =
        let is = filled m open_levy (launched_on done after) share_out (take few before.credits) part credited shares in
        let lines = take credited part in
        let credits : lines_of m open_levy (share_outs room) ≡ lines =
        ap (λ a. lines_in a ++ (lines_in (answer_at m (next open_levy a) (share_out on room.credits)) ++ [])) taken ∙ append-nil lines in
        let all : lines_of m (next s (answer_at m s (call_for v on room.bill))) (share_outs room) ≡ lines = ap (λ a. lines_of m (next s a) (share_outs room)) bills.given ∙ credits in
        let short : length lines ≤ length (take few before.credits) = omega (arith, length-take credited part, as_long) in
        record {
          state = sym (ap (λ a. lived m (next s a) (share_outs room)) bills.given ∙ ap (λ a. lived m (next open_levy a) (share_out on room.credits ∷ [])) taken);
          bill = bill_filled;
          turned_down = sym (ap (λ a. answer_refusal (answer_at m (next s a) (share_out on room.first))) bills.given ∙ ap answer_refusal taken);
          credits = record {
            strip = ap (λ l. l ++ drop few before.credits) is.strip ∙ widened lines before.credits few short ∙ ap (λ l. written l before.credits) (sym all);
            count = is.count ∙ ap length (sym all);
          };
        }

  -- the first share-out is refused
  module _ (few : ℕ) (fits : few ≡ min first (length before.credits)) (part : List Line) (none : ℕ) (refusal : Refusal) (back : OpenLevy) (left : List RollEntry) (kept : (back ≡ levy) × (left ≡ t.roll))
      (turned : IsAnswered m open_levy share_out (take few before.credits) part none (Err refusal)) where
    turned_first : answer_at m open_levy (share_out on room.first) ≡ Some (Err refusal)
    turned_first =
        let places : room.first ≡ length (take few before.credits) = omega (arith, fits, length-take few before.credits) in
        ap (λ n. answer_to m open_levy n share_out) places ∙ turned.given

    abbrev again : State
    again = levied_on back (record { roll = left; register = t.register })

    as_before : again ≡ open_levy
    as_before = λ i. levied_on (kept.0 i) (record { roll = kept.1 i; register = t.register })

    whole : part ++ drop few before.credits ≡ before.credits
    whole = ap (λ l. l ++ drop few before.credits) (unwritten m open_levy share_out (take few before.credits) part none refusal turned) ∙ take-append-drop few before.credits

    -- and the second accepted
    pub settled_at_last : (done : LaunchedZone) (after : Tables) (credited : ℕ) (credits : List Line) →
        IsAnswered m again share_out (part ++ drop few before.credits) credits credited (accepted (launched_on done after) credited credits) →
        IsSettled m s v first before (strips bill credits) after (record { zone = done; billed = billed; turned_down = Some refusal; credited = credited })
    settled_at_last done after credited credits shares =
        let is = filled m again (launched_on done after) share_out (part ++ drop few before.credits) credits credited shares in
        let lines = take credited credits in
        let taken : answer_at m open_levy (share_out on room.credits) ≡ Some (accepted (launched_on done after) credited credits) =
        sym (λ i. answer_to m (as_before i) (length (whole i)) share_out) ∙ shares.given in
        let second : lines_of m open_levy (share_outs room) ≡ lines =
        ap (λ a. lines_in a ++ (lines_in (answer_at m (next open_levy a) (share_out on room.credits)) ++ [])) turned_first ∙
        ap (λ a. lines_in a ++ []) taken ∙ append-nil lines in
        let all : lines_of m (next s (answer_at m s (call_for v on room.bill))) (share_outs room) ≡ lines = ap (λ a. lines_of m (next s a) (share_outs room)) bills.given ∙ second in
        record {
          state = sym (ap (λ a. lived m (next s a) (share_outs room)) bills.given ∙ ap (λ a. lived m (next open_levy a) (share_out on room.credits ∷ [])) turned_first ∙ ap (next open_levy) taken);
          bill = bill_filled;
          turned_down = sym (ap (λ a. answer_refusal (answer_at m (next s a) (share_out on room.first))) bills.given ∙ ap answer_refusal turned_first);
          credits = record {
            strip = is.strip ∙ ap (written lines) whole ∙ ap (λ l. written l before.credits) (sym all);
            count = is.count ∙ ap length (sym all);
          };
        }

    -- which it is, with a place for each line
    pub ends : (credits : List Line) (number : ℕ) (turned_again : Refusal) → most_lines s ≤ length before.credits →
        IsAnswered m again share_out (part ++ drop few before.credits) credits number (Err turned_again) → ⊥
    ends credits number turned_again enough refused =
        let d = zone.launch_date in
        let f = zone.core.figures in
        let g = levy.zone.core.figures in
        let bill_room = length before.bill in
        let effect : Effect = record { state = open_levy; lines = take billed bill } in
        let says : ◌≡◌ {A = Option Answer} (Some (billing m f d t bill_room v)) (Some (Ok effect)) = sym (takes m s bill_room v) ∙ bills.given in
        let is : billing m f d t bill_room v ≡ Ok effect = cc in
        let same = (accepted_is (billing_checks m f d t bill_room v) (billing_effect m f d t v) effect is).1 in
        let operators : f.operators ≡ g.operators = ap (λ (e : Effect). e.state.figures.operators) same in
        let objects : f.objects ≡ g.objects = ap (λ (e : Effect). e.state.figures.objects) same in
        let members : length (counted_members g t) ≡ length (counted_roll f t) = length-map (counted_roll g t) member_of ∙ ap (λ n. length (take n t.roll)) (sym operators) in
        let register : length (counted_register g t) ≡ length (counted_register f t) = ap (λ n. length (take n t.register)) (sym objects) in
        let product : length (counted_members g t) * length (counted_register g t) ≡ most_lines s = λ i. members i * register i in
        let answers : ◌≡◌ {A = Option Answer} (Some (settling m g levy.zone.launch_date t (length before.credits) levy.event)) (Some (Err turned_again)) =
        sym (λ i. answer_to m (as_before i) (length (whole i)) share_out) ∙ refused.given in
        let no' : settling m g levy.zone.launch_date t (length before.credits) levy.event ≡ Err turned_again = cc in
        never_refused m f d levy t bill_room (length before.credits) v (take billed bill) turned_again (sym is) (sym no') (omega (arith, product, enough))
