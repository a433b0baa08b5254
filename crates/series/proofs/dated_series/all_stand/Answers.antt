use Rattle.std.proofs.Common.{◌&&◌, rules, sym, ap, ◌∙◌}
use Rattle.std.proofs.lemmas.List.Sorted.{answers_always}
use Rattle.series.proofs.Judging.{each_next, each_seen, follows, judged_from}
use Rattle.series.proofs.dated_series.all_stand.Goals as goal

pub returns-then-stands : goal.returns-then-stands
returns-then-stands g c =
    let rows = c.args.rows.now in
    let test = follows g.V.Limited.fits in
    let first = c.first-item.result in
    record {
      value = each_seen test rows c.is_sorted_by.result
          (c.is_sorted_by.ensures.cases test (answers_always _ _ _ (λ f a r f' k. search rules)))
          ∙ ap (λ t. t && each_next test rows) (sym c.if-stands.true ∙ c.stands.ensures.value)
          ∙ judged_from g.V.Limited.fits rows first c.first-item.is c.in-len1-up.len_at_least;
    }

pub returns-else-stands : goal.returns-else-stands
returns-else-stands g c =
    let rows = c.args.rows.now in
    let first = c.first-item.result in
    record {
      value = c.if-stands.false
          ∙ ap (λ t. t && each_next (follows g.V.Limited.fits) rows) (sym c.if-stands.false ∙ c.stands.ensures.value)
          ∙ judged_from g.V.Limited.fits rows first c.first-item.is c.in-len1-up.len_at_least;
    }
