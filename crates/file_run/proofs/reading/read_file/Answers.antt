use Rattle.std.proofs.Common.{[], ◌∷◌, Ok, subst, vec_items, sym, ap, ◌∙◌, append-nil, arith, map}
use Rattle.std.proofs.lemmas.List.{map-append}
use Rattle.event_file.specs.Readers.{unread}
use Rattle.file_run.specs.Steps.{shown_notice, Goes}
use Rattle.file_run.proofs.Running.{ended, gone_on}
use Rattle.file_run.proofs.reading.read_file.Goals as goal

pub loop-notices-preserved-in-Ok-Some : goal.loop-notices-preserved-in-Ok-Some
loop-notices-preserved-in-Ok-Some g c =
    let done = c.in-Ok-Some.ensures in
    gone_on (g.T.Tariff.meaning c.args.sheet.now) _ _ _ _ _ _ _ _ _ _ _ _ _ c.loop-notices.invariant (subst (λ o. Goes (unread c.loop-notices.reader).left (Ok o)) c.in-Ok-Some.field-0-is done.goes) (omega arith) (omega arith) done.left done.after
    done.notices (sym (append-nil (map shown_notice (vec_items c.loop-notices.notices))))

pub loop-notices-preserved : goal.loop-notices-preserved
loop-notices-preserved g c =
    let done = c.in-Err-advance.ensures in
    let pushed = c.push_reserved-in-Err-advance.ensures in
    let adds = ap (map shown_notice) pushed.items ∙ map-append shown_notice (vec_items c.loop-notices.notices) (c.in-Err-advance.notice ∷ []) in
    gone_on (g.T.Tariff.meaning c.args.sheet.now) _ _ _ _ _ _ _ _ _ _ _ _ _ c.loop-notices.invariant done.goes (omega (arith, pushed.len)) (omega (arith, pushed.capacity)) done.left done.after done.notices adds

pub returns-in-Ok-None-clause-notices : goal.returns-in-Ok-None-clause-notices
returns-in-Ok-None-clause-notices g c =
    let done = c.in-Ok-None.ensures in
    (ended (g.T.Tariff.meaning c.args.sheet.now) _ _ _ _ _ _ _ _ c.loop-notices.invariant (subst (λ o. Goes (unread c.loop-notices.reader).left (Ok o)) c.in-Ok-None.field-0-is done.goes) done.after).0

pub returns-in-Ok-None-clause-after : goal.returns-in-Ok-None-clause-after
returns-in-Ok-None-clause-after g c =
    let done = c.in-Ok-None.ensures in
    (ended (g.T.Tariff.meaning c.args.sheet.now) _ _ _ _ _ _ _ _ c.loop-notices.invariant (subst (λ o. Goes (unread c.loop-notices.reader).left (Ok o)) c.in-Ok-None.field-0-is done.goes) done.after).1
