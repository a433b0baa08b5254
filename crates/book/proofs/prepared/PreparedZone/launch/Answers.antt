use Rattle.std.proofs.Common.{[], sym, refl, ◌∙◌}
use Rattle.refusal.proofs.First.{carried, still_refused}
use Rattle.book.specs.Answers.{launching_checks, launching_effect, launching}
use Rattle.book.specs.Passing.{tables}
use Rattle.book.specs.Promises.{prepared}
use Rattle.book.specs.Calls.{launch}
use Rattle.book.proofs.Living.{is_answered, without_line, without_effect, whole_life_laws}
use Rattle.book.proofs.prepared.PreparedZone.launch.Goals as goal

pub returns-in-Ok : goal.returns-in-Ok
returns-in-Ok c =
    let f = c.args.self.core.figures in
    let t = tables c.args.roll.now c.args.register.now in
    let said = launching f t c.args.date in
    let answer = carried (launching_checks f t c.args.date) tt _ (λ _. launching_effect f t c.args.date) (sym c.check_launch.ensures.answer ∙ c.in-Ok.is) in
    record {
      call = λ m. is_answered m (prepared c.args.self t) (launch c.args.date) [] [] 0 _ said refl (without_line _ said answer);
      kept = tt;
      laws = whole_life_laws;
    }

pub returns-in-Err : goal.returns-in-Err
returns-in-Err c =
    let f = c.args.self.core.figures in
    let t = tables c.args.roll.now c.args.register.now in
    let said = launching f t c.args.date in
    let answer = still_refused (launching_checks f t c.args.date) tt (launching_effect f t c.args.date) _ (sym c.check_launch.ensures.answer ∙ c.in-Err.is) in
    record {
      call = λ m. is_answered m (prepared c.args.self t) (launch c.args.date) [] [] 0 _ said refl (without_effect _ said answer);
      kept = refl;
      laws = whole_life_laws;
    }
