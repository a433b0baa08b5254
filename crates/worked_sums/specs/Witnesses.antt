-- Lives and cuts that the laws speak of: without them a law could hold of nothing.
--   story        a life with an accepted and a refused call of every kind
--   before_cut   a state in which an operator of 2 tranches raises to 5, at once or in three parts
--   Story, Parts the laws applied to both
use Rattle.std.specs.Prelude.{◌≡◌, ℕ, Bool, true, false, not, ◌&&◌, List, [], ◌∷◌, ◌==◌, map}
use Rattle.std.specs.List.{list_any}
use Rattle.tariff.specs.Meaning.{Lawful}
use Rattle.book.specs.Limits.{most_amount}
use Rattle.book.specs.Lines.{unit_shown}
use Rattle.book.specs.Zone.{State, Effect}
use Rattle.book.specs.Calls.{Call, commitment, raise, launch, opening, cabling, share_out}
use Rattle.book.specs.Tally.{Made}
use Rattle.book.specs.Life.{Life}
use Rattle.book.specs.Cuts.{Accepts, Cut}
use Rattle.book.specs.Laws.{Accounted, ShownApart}
use Rattle.book.specs.Grounds.{NumbersFit}
use Rattle.book.specs.Runs.{blank, Step, ◌on◌, effect_at, lived, calls}
use Rattle.book.specs.declared.lines.Line.{Line}
use Rattle.book.specs.declared.lines.Nature.TheVariants.{Charge, Contribution}
use Rattle.worked_sums.specs.Sheets.{sheet_down}

-- The calls in preparation, the launch, what is installed, then the calls that bill, with their
-- share-outs.
abbrev pub story : List Step
story =
    commitment 20170301 1 4 on 0 ∷ commitment 20170301 1 2 on 0 ∷
    raise 20170302 1 5 on 0 ∷ raise 20170301 1 6 on 0 ∷
    commitment 20170302 2 2 on 0 ∷ launch 20170301 on 0 ∷ launch 20170315 on 0 ∷
    opening 20170401 7 300 on 2 ∷ opening 20170401 7 300 on 2 ∷
    cabling 20170501 8 true 40 on 5 ∷ cabling 20170501 9 false 0 on 5 ∷
    commitment 20180410 3 1 on 4 ∷ share_out on 1 ∷ share_out on 4 ∷
    raise 20190101 2 3 on 4 ∷ share_out on 9 ∷
    commitment 20570101 4 1 on 9 ∷ raise 20190201 1 20 on 9 ∷ []

abbrev pub story_calls : List Made
story_calls = calls sheet_down (blank 4 3) story []

abbrev pub story_end : State
story_end = lived sheet_down (blank 4 3) story

-- The kinds of calls, by number.
abbrev pub kind_number : Call → ℕ
kind_number (commitment date operator rate) = 1
kind_number (raise date operator rate) = 2
kind_number (launch date) = 3
kind_number (opening date object dwellings) = 4
kind_number (cabling date object third dwellings) = 5
kind_number share_out = 6

-- Whether calls of a kind were both accepted and refused.
abbrev pub both_ways : List Made → ℕ → Bool
both_ways made kind =
    list_any (λ x. (kind_number x.call == kind) && x.refused) made &&
    list_any (λ x. (kind_number x.call == kind) && not x.refused) made

-- The story is a life over a lawful sheet with every kind of call, accepted and refused; its
-- accounts stand and its numbers fit.
pub record Story : Type 0 where
  pub lawful : Lawful sheet_down
  pub life : Life sheet_down story_calls story_end
  pub every_kind :
      map (both_ways story_calls) (1 ∷ 2 ∷ 3 ∷ 4 ∷ 5 ∷ 6 ∷ []) ≡
      true ∷ true ∷ true ∷ true ∷ true ∷ true ∷ []
  pub accounted : Accounted (λ lines. lines) sheet_down story_calls story_end
  pub fits : NumbersFit most_amount sheet_down story_end

-- Two operators, the launch, a PM and a third party's site.
abbrev pub before_steps : List Step
before_steps =
    commitment 20170301 1 4 on 0 ∷ commitment 20170301 2 2 on 0 ∷ launch 20170315 on 0 ∷
    opening 20170401 7 300 on 2 ∷ cabling 20170501 8 true 40 on 2 ∷ []

abbrev pub before_cut : State
before_cut = lived sheet_down (blank 4 3) before_steps

-- The whole raise, and its three parts with a share-out after each of the first two.
abbrev pub whole : Effect
whole = effect_at sheet_down before_cut (raise 20181201 2 5 on 4)

abbrev pub part_1 : Effect
part_1 = effect_at sheet_down before_cut (raise 20181201 2 3 on 4)

abbrev pub shared_1 : Effect
shared_1 = effect_at sheet_down part_1.state (share_out on 4)

abbrev pub part_2 : Effect
part_2 = effect_at sheet_down shared_1.state (raise 20181201 2 4 on 4)

abbrev pub shared_2 : Effect
shared_2 = effect_at sheet_down part_2.state (share_out on 4)

abbrev pub part_3 : Effect
part_3 = effect_at sheet_down shared_2.state (raise 20181201 2 5 on 4)

abbrev pub parts : List (List Line)
parts = part_1.lines ∷ part_2.lines ∷ part_3.lines ∷ []

-- A unit price at once, and that of each part.
pub record Parts (together each_part : ℕ) : Type 0 where
  pub life : Life sheet_down (calls sheet_down (blank 4 3) before_steps []) before_cut
  pub accepted : Accepts sheet_down before_cut (raise 20181201 2 5) whole
  pub cut : Cut sheet_down 20181201 2 5 before_cut parts
  pub at_once : unit_shown Charge 2 7 whole.lines ≡ together
  pub in_parts : map (unit_shown Charge 2 7) parts ≡ each_part ∷ each_part ∷ each_part ∷ []
  pub fair :
      ShownApart 3 Charge 2 7 whole.lines parts × ShownApart 3 Contribution 2 7 whole.lines parts
