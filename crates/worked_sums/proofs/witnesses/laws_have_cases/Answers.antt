use Rattle.worked_sums.proofs.Witnessing.{story_stands, parts_stand}
use Rattle.worked_sums.proofs.witnesses.laws_have_cases.Goals as goal

pub returns : goal.returns
returns c = record { life = story_stands; cut = parts_stand }
