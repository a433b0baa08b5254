use Rattle.std.proofs.Common.{◌≡◌, ◌+◌, ◌/◌, ◌%◌, ◌∷◌, drop, slice_get, Some, sym, ap, ◌∙◌, subst, rules, refl, arith}
use Rattle.event_file.specs.Positions.{left_at}
use Rattle.event_file.specs.Reading.{LabelIs, shown_entry, shown_step}
use Rattle.event_file.specs.Readers.{unread}
use Rattle.event_file.proofs.Labels.{labelled}
use Rattle.event_file.proofs.Remaining.{at_end, none_left, stopped, went}
use Rattle.event_file.proofs.SameEntries.{same_entries}
use Rattle.event_file.proofs.Unread.{shown_file, shown_left}
use Rattle.event_file.proofs.reader.Reader.next_entry.Goals as goal

pub returns-then-self-end-clause-answer : goal.returns-then-self-end-clause-answer
returns-then-self-end-clause-answer c =
    let self = c.args.self.now in
    ap (λ l. slice_get l 0) (sym (at_end self.bytes.now self.position c.if-self-end.true self.within) ∙ shown_left self)

pub returns-then-self-end-clause-left : goal.returns-then-self-end-clause-left
returns-then-self-end-clause-left c =
    let self = c.args.self.now in
    let none = sym (shown_left self) ∙ at_end self.bytes.now self.position c.if-self-end.true self.within in
    none ∙ ap (drop 1) (sym none)

pub returns-then-self-end-clause-entries : goal.returns-then-self-end-clause-entries
returns-then-self-end-clause-entries c = same_entries

-- a block that fails its check is all that was left
pub returns-in-Err-clause-answer : goal.returns-in-Err-clause-answer
returns-in-Err-clause-answer c =
    let self = c.args.self.now in
    ap (λ l. slice_get l 0)
    (sym (stopped self.bytes.now self.position c.if-self-end.false c.part_at-block.result.now c.part_at-block.ensures.value c.in-Err.refusal c.in-Err.ensures.answer) ∙ shown_left self)

pub returns-in-Err-clause-left : goal.returns-in-Err-clause-left
returns-in-Err-clause-left c =
    let self = c.args.self.now in
    sym (shown_left _)
    ∙ none_left self.bytes.now _ refl
    ∙ ap (drop 1)
    (sym (stopped self.bytes.now self.position c.if-self-end.false c.part_at-block.result.now c.part_at-block.ensures.value c.in-Err.refusal c.in-Err.ensures.answer) ∙ shown_left self)

pub returns-in-Err-clause-kept : goal.returns-in-Err-clause-kept
returns-in-Err-clause-kept c = sym (shown_file _) ∙ shown_file c.args.self.now

pub returns-in-Err-clause-entries : goal.returns-in-Err-clause-entries
returns-in-Err-clause-entries c = same_entries

-- the entry in the block is the step
reached : (c : goal.After-map) → shown_step c.map.result ≡ Some (shown_entry c.entry_in.result)
reached c = search rules

-- it is the first of what was left
first : (c : goal.After-map) →
    let self = c.args.self.now in
    shown_entry c.entry_in.result ∷ left_at self.bytes.now (self.position + 1) ≡ (unread self).left
first c =
    let self = c.args.self.now in
    sym (went self.bytes.now self.position c.if-self-end.false c.part_at-block.result.now c.part_at-block.ensures.value c.in_default.field-0 _ c.in_default.ensures.answer c.entry_in.ensures.answer)
    ∙ shown_left self

pub returns-clause-answer : goal.returns-clause-answer
returns-clause-answer c = reached c ∙ ap (λ l. slice_get l 0) (first c)

pub returns-clause-left : goal.returns-clause-left
returns-clause-left c = sym (shown_left _) ∙ ap (drop 1) (first c)

pub returns-clause-kept : goal.returns-clause-kept
returns-clause-kept c = sym (shown_file _) ∙ shown_file c.args.self.now

pub returns-clause-label : goal.returns-clause-label
returns-clause-label c =
    let self = c.args.self.now in
    let bs = self.bytes.now in
    let p = self.position in
    let told = labelled bs (p / 17) (p % 17) (omega arith) c.part_at-block.result.now (shown_entry c.entry_in.result) c.part_at-block.ensures.value c.entry_in.ensures.answer in
    let here = subst (λ o. LabelIs bs o) (sym (reached c)) told in
    subst (λ l. LabelIs l (shown_step c.map.result)) (shown_file self) here

pub returns-clause-entries : goal.returns-clause-entries
returns-clause-entries c = same_entries
