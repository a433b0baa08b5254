use Rattle.std.proofs.Common.{[], refl}
use Rattle.book.specs.Calls.{commitment, commitment_event}
use Rattle.book.specs.Answers.{subscription}
use Rattle.book.specs.Passing.{tables}
use Rattle.book.specs.Promises.{prepared}
use Rattle.book.proofs.Living.{is_answered, without_strip, whole_life_laws}
use Rattle.book.proofs.prepared.PreparedZone.commitment.Goals as goal

pub returns : goal.returns
returns c =
    let t = tables c.args.roll.now c.args.register.now in
    let said = subscription c.args.self.core.figures t (commitment_event c.args.date c.args.operator c.args.rate) in
    record {
      call = λ m. is_answered m (prepared c.args.self t) (commitment c.args.date c.args.operator c.args.rate) [] [] 0 _ said refl (without_strip prepared _ c.subscribed.result said c.subscribed.ensures.answer);
      kept = c.subscribed.ensures.kept;
      laws = whole_life_laws;
    }
