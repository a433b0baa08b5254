use Rattle.std.proofs.Common.{Some, ap, ◌∙◌}
use Rattle.std.specs.Option.{option_map}
use Rattle.book.specs.Members.{rate_of}
use Rattle.book.specs.declared.entries.RollEntry.{RollEntry}
use Rattle.book.proofs.Rolls.{rate_found}
use Rattle.book.proofs.zone_checks.rate_on.Goals as goal

pub returns-in_err-member : goal.returns-in_err-member
returns-in_err-member c =
    record { value = c.from_residual.ensures ∙ ap (option_map (λ (e : RollEntry). rate_of e.tranches)) c.in_err-member.ensures.value ∙ rate_found c.args.operator c.args.roll.now }

pub returns : goal.returns
returns c =
    record { value = ap Some c.rate_of.ensures.value ∙ ap (option_map (λ (e : RollEntry). rate_of e.tranches)) c.in_ok-member.ensures.value ∙ rate_found c.args.operator c.args.roll.now }
