-- The laws applied to lives and cuts that there are.
use Rattle.std.proofs.Common.{[], refl}
use Rattle.sheet_parts.specs.Row.{coefficient_after}
use Rattle.book.specs.Calls.{commitment, raise, share_out}
use Rattle.book.specs.Life.{Life, begins}
use Rattle.book.specs.Cuts.{Accepts, Cut, ends, raised, passed, stayed}
use Rattle.book.specs.Runs.{◌on◌, blank, calls}
use Rattle.book.proofs.Accounts.{every_life_accounted}
use Rattle.book.proofs.Chain.{every_cut_fair}
use Rattle.book.proofs.Reaching.{every_life_fits}
use Rattle.book.proofs.Stepping.{lives, accepts, refuses}
use Rattle.worked_sums.specs.Sheets.{sheet_down}
use Rattle.worked_sums.specs.Witnesses.{story, story_calls, story_end, before_steps, before_cut, whole, part_1, shared_1, part_2, shared_2, parts, Story, Parts}
use Rattle.worked_sums.proofs.Lawful.{down_lawful}

story_life : Life sheet_down story_calls story_end
story_life = lives sheet_down story (blank 4 3) [] (begins _)

pub story_stands : Story
unfolding coefficient_after
story_stands = record {
  lawful = down_lawful;
  life = story_life;
  every_kind = refl;
  accounted = every_life_accounted sheet_down down_lawful story_calls story_end story_life;
  fits = every_life_fits sheet_down down_lawful story_calls story_end story_life;
}

before_life : Life sheet_down (calls sheet_down (blank 4 3) before_steps []) before_cut
before_life = lives sheet_down before_steps (blank 4 3) [] (begins _)

whole_accepted : Accepts sheet_down before_cut (raise 20181201 2 5) whole
unfolding coefficient_after
whole_accepted = accepts sheet_down before_cut (raise 20181201 2 5 on 4) refl

-- between the parts a share-out is refused for its strip, and a second commitment of the operator too
in_three : Cut sheet_down 20181201 2 5 before_cut parts
unfolding coefficient_after
in_three =
    raised 3 (accepts sheet_down before_cut (raise 20181201 2 3 on 4) refl)
    (stayed share_out (refuses sheet_down part_1.state (share_out on 1) refl)
    (passed share_out tt (accepts sheet_down part_1.state (share_out on 4) refl)
    (stayed (commitment 20181201 2 9) (refuses sheet_down shared_1.state (commitment 20181201 2 9 on 9) refl)
    (raised 4 (accepts sheet_down shared_1.state (raise 20181201 2 4 on 4) refl)
    (passed share_out tt (accepts sheet_down part_2.state (share_out on 4) refl)
    (ends (accepts sheet_down shared_2.state (raise 20181201 2 5 on 4) refl)))))))

pub parts_stand : Parts 23908600 7969533
unfolding coefficient_after
parts_stand = record {
  life = before_life;
  accepted = whole_accepted;
  cut = in_three;
  at_once = refl;
  in_parts = refl;
  fair = every_cut_fair sheet_down down_lawful _ before_cut before_life 20170315 refl 20181201 2 5 whole whole_accepted parts in_three 7;
}
