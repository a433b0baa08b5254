use Rattle.std.proofs.Common.{◌≡◌, ◌&&◌, nat_le, refl, rules, ap, ◌∙◌, sym}
use Rattle.std.proofs.lemmas.Bool.{le-leb}
use Rattle.std.proofs.lemmas.List.Recursion.{and_is}
use Rattle.tariff.specs.Most.{all_at_most}
use Rattle.sheet_parts.proofs.given.TermsLimited.in_limits.Goals as goal

pub returns-then-self-le-WHOLE : goal.returns-then-self-le-WHOLE
returns-then-self-le-WHOLE c =
    let weights = c.args.self.now.weights in
    let all : c.all.result ≡ all_at_most 200 weights = and_is (all_at_most 200) (λ w. nat_le w 200) refl (λ _ _. refl) weights 0 _ (search rules) (search rules) in
    record { value = all ∙ sym (ap (λ b. b && all_at_most 200 weights) (le-leb c.args.self.now.contribution 100 c.if-self-le-WHOLE.true)) }
