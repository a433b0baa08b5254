use Rattle.std.proofs.Common.{◌≡◌, ◌*◌, false, ltb, [], ◌∷◌, length, sym, ap, arith}
use Rattle.std.proofs.lemmas.Bool.{le-ltb}
use Rattle.std.proofs.lemmas.List.{length-map}
use Rattle.refusal.specs.Checks.{passing, ◌⇒◌}
use Rattle.refusal.specs.declared.Refusal.TheVariants.{StripTooShort}
use Rattle.book.specs.Members.{member_of, members_of}
use Rattle.book.specs.Increases.{addition_in, lines_shared}
use Rattle.book.proofs.Due.{lines_most}
use Rattle.book.proofs.share.check_room.Goals as goal

pub returns-then-objects-operators : goal.returns-then-objects-operators
returns-then-objects-operators g c =
    let m = g.T.Tariff.meaning c.args.sheet.now in
    let members = members_of c.args.operators.items.now in
    let lines = lines_shared m (addition_in c.args.increase) c.args.objects.items.now members in
    let most = lines_most m (addition_in c.args.increase) c.args.objects.items.now members in
    let all = length-map c.args.operators.items.now member_of in
    let room : ltb c.args.places lines ≡ false = le-ltb _ _ (omega (arith, most, ap (λ n. length c.args.objects.items.now * n) all, c.if-objects-operators.true)) in
    record { answer = ap (λ b. passing ((b ⇒ StripTooShort) ∷ [])) (sym room) }
