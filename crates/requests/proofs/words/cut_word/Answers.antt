use Rattle.std.proofs.Common.{◌≡◌, ◌∙◌, not, rules, tests}
use Rattle.std.specs.List.{prefix_len}
use Rattle.std.proofs.lemmas.List.{take_rest}
use Rattle.std.proofs.lemmas.List.Folds.{length-prefix_len}
use Rattle.std.proofs.lemmas.Iterator.{YieldsList-from_slice}
use Rattle.std.proofs.lemmas.Iterator.Consumers.{count_from_yields_List}
use Rattle.std.proofs.lemmas.Iterator.Search.{YieldsList-from_take_while}
use Rattle.requests.specs.Words.{blank, word, after_word, after_blanks}
use Rattle.requests.proofs.words.cut_word.Goals as goal

pub returns : goal.returns
unfolding word after_word
returns c =
    let line = c.args.line.now in
    let blanks : c.count-blanks.result ≡ prefix_len blank line =
    count_from_yields_List c.take_while.result _ c.count-blanks.ensures.ran
    (YieldsList-from_take_while _ blank (YieldsList-from_slice line cc) c.take_while.ensures.closure c.take_while.ensures.done (λ x b q k. search (rules, tests)))
    ∙ length-prefix_len blank line in
    let end : c.count-end.result ≡ prefix_len (λ b. not (blank b)) (after_blanks line) =
    count_from_yields_List c.take_while-2.result _ c.count-end.ensures.ran
    (YieldsList-from_take_while _ (λ b. not (blank b)) (YieldsList-from_slice (after_blanks line) (search (rules, take_rest))) c.take_while-2.ensures.closure c.take_while-2.ensures.done (λ x b q k. search (rules, tests)))
    ∙ length-prefix_len (λ b. not (blank b)) (after_blanks line) in
    search (rules, take_rest)
