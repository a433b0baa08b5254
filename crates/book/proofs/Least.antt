-- Neither limit can be lowered by one: the coarse sheet reaches both.
use Rattle.std.proofs.Common.{◌+◌, ◌-◌, ◌<◌, ◌≤◌, List, [], ◌∷◌, ◌++◌, refl, arith}
use Rattle.book.specs.Zone.{State, Effect}
use Rattle.book.specs.Calls.{commitment, raise, launch, opening, share_out}
use Rattle.book.specs.Life.{begins}
use Rattle.book.specs.Cuts.{Cut, ends, raised, passed}
use Rattle.book.specs.Laws.{EveryLifeAccounted, EveryCutFair}
use Rattle.book.specs.Runs.{blank, Step, ◌on◌, effect_at, lived, calls}
use Rattle.book.specs.Coarse.{coarse}
use Rattle.book.proofs.Lawful.{coarse_lawful}
use Rattle.book.proofs.Stepping.{lives, accepts}

-- three operators of one tranche, a PM of one dwelling
abbrev small : List Step
small = commitment 20170301 1 1 on 0 ∷ commitment 20170301 2 1 on 0 ∷ commitment 20170301 3 1 on 0 ∷ launch 20170315 on 0 ∷ opening 20170401 7 1 on 3 ∷ []

abbrev start : State
start = blank 4 1

-- 2 micro-euros among three: each share of two thirds is 0
abbrev settled_steps : List Step
settled_steps = small ++ (commitment 20180410 4 2 on 2 ∷ share_out on 3 ∷ [])

pub no_less_held : EveryLifeAccounted (λ lines. lines - 1) → ⊥
no_less_held law =
    let a = law coarse coarse_lawful (calls coarse start settled_steps []) (lived coarse start settled_steps) (lives coarse settled_steps start [] (begins _)) in
    let some : 0 < 3 = omega arith in
    let h : 2 < 0 + 2 = a.held.over some in omega arith

-- two tranches at once cost 2, each of them by itself nothing
abbrev before : State
before = lived coarse start small

abbrev at_once : Effect
at_once = effect_at coarse before (raise 20180410 1 3 on 2)

abbrev first_part : Effect
first_part = effect_at coarse before (raise 20180410 1 2 on 2)

abbrev between : Effect
between = effect_at coarse first_part.state (share_out on 3)

abbrev last_part : Effect
last_part = effect_at coarse between.state (raise 20180410 1 3 on 2)

in_two : Cut coarse 20180410 1 3 before (first_part.lines ∷ last_part.lines ∷ [])
in_two =
    raised 2 (accepts coarse before (raise 20180410 1 2 on 2) refl)
    (passed share_out tt (accepts coarse first_part.state (share_out on 3) refl)
    (ends (accepts coarse between.state (raise 20180410 1 3 on 2) refl)))

pub no_less_apart : EveryCutFair (λ parts. parts - 1) → ⊥
no_less_apart law =
    let a = law coarse coarse_lawful (calls coarse start small []) before (lives coarse small start [] (begins _)) 20170315 refl 20180410 1 3 at_once (accepts coarse before (raise 20180410 1 3 on 2) refl) (first_part.lines ∷ last_part.lines ∷ []) in_two 7 in
    let h : 2 ≤ 0 + 1 = a.0.over in omega arith
