use Rattle.std.proofs.Common.{◌&&◌, ap, ◌∙◌}
use Rattle.series.specs.Limits.{index_fits}
use Rattle.series.specs.Rows.{sound}
use Rattle.sheet_parts.specs.Given.{prices_in_limits, terms_in_limits, making}
use Rattle.quote_desk.specs.Desks.{desk_prices, desk_terms, priced}
use Rattle.quote_desk.proofs.Making.{made_of}
use Rattle.quote_desk.proofs.desk.on_indexed.Goals as goal

pub returns : goal.returns
returns c =
    let wages = c.args.wages.now in
    let consumer = c.args.consumer.now in
    let enquiry = c.args.enquiry.now in
    let fits = (prices_in_limits desk_prices && terms_in_limits desk_terms) && (sound index_fits wages && sound index_fits consumer) in
    let filled = rw c.in-Some.is at c.in_ok-fill.ensures.value in
    let asked = c.price_of.ensures.value ∙ ap (λ m. priced m enquiry) filled in
    record { value = asked ∙ made_of (making fits) _ _ c.in_ok-fill.ensures.answer }
