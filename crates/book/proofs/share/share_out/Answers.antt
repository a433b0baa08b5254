use Rattle.std.proofs.Common.{◌≡◌, ◌*◌, ◌<◌, ◌≤◌, true, [], length, get_or, sym, ap, ◌∙◌, mul-le-mul, arith}
use Rattle.std.proofs.lemmas.Bool.{lt-ltb, le-ltb}
use Rattle.std.proofs.lemmas.List.{length-map}
use Rattle.tariff.specs.declared.kinds.Kind.TheVariants.{Covered}
use Rattle.book.specs.Limits.{most_contribution}
use Rattle.book.specs.Lists.{written}
use Rattle.book.specs.Increases.{addition_in}
use Rattle.book.specs.declared.entries.RollEntry.{RollEntry}
use Rattle.book.specs.declared.entries.RegisterEntry.{RegisterEntry}
use Rattle.book.specs.Members.{members_of, member_of, weight_to}
use Rattle.book.specs.Sharing.{serves}
use Rattle.book.proofs.Totals.{all_also}
use Rattle.book.proofs.Counting.{lines_counted}
use Rattle.book.proofs.YearSums.{whole_asked}
use Rattle.book.proofs.Soundness.{all_sound}
use Rattle.book.proofs.Crediting.{sums, outer_start, credit_place, inner_yes, inner_no, inner_done, object_room, outer_next, outer_done, turn_balance, turn_whole, turn_part, credits_are, entries_are, unshared_is}
use Rattle.book.proofs.share.share_out.Given as given
use Rattle.book.proofs.share.share_out.Goals as goal
use Rattle.book.proofs.share.share_out.Goals.{Then-weight-gt0, then-weight-gt0, else-weight-gt0}

abbrev blank : RollEntry
blank = record { operator = 0; tranches = []; balance = 0 }

abbrev nothing : RegisterEntry
nothing = record { object = 0; kind = Covered; installed = 0; dwellings = 0 }

-- the weight of an operator that has a share
weighs : (g : given.Over) (c : Then-weight-gt0 g) → c.weight_for-weight.result ≡ weight_to (g.T.Tariff.meaning c.args.sheet.now) c.args.increase.index (get_or c.loop-member.roll c.loop-member.member-index blank).tranches
weighs g c =
    let m = g.T.Tariff.meaning c.args.sheet.now in
    c.weight_for-weight.ensures.value m c.up_to-weights.ensures.asked c.if-weight-gt0.true ∙
    ap (λ i. weight_to m i (get_or c.loop-member.roll c.loop-member.member-index blank).tranches) c.up_to-weights.ensures.index

serves_it : (g : given.Over) (c : Then-weight-gt0 g) → serves c.contribution-amount.result c.weight_for-weight.result ≡ true
serves_it g c =
    let m = g.T.Tariff.meaning c.args.sheet.now in
    ap (serves c.contribution-amount.result) (c.weight_for-weight.ensures.value m c.up_to-weights.ensures.asked c.if-weight-gt0.true) ∙
    sym (c.weight_for-weight.ensures.due m c.up_to-weights.ensures.asked) ∙ lt-ltb 0 c.weight_for-weight.result c.if-weight-gt0.true

pub loop-item-init : goal.loop-item-init
loop-item-init g c =
    let sound = all_sound c.args.roll.now c.requires.roll in
    outer_start (g.T.Tariff.meaning c.args.sheet.now) (addition_in c.args.increase) c.whole_weight-whole.result c.args.objects.items.now c.args.roll.now c.args.strip.now
    (whole_asked _ c.up_to-weights.result c.up_to-weights.ensures.asked c.args.increase.index c.up_to-weights.ensures.index c.args.roll.now _ c.whole_weight-whole.ensures.value) (all_also (λ e x. x.rate) c.args.roll.now sound) (all_also (λ e x. x.held) c.args.roll.now sound)

-- a share is due, of at most the amount, and its line has a place
product_in : (g : given.Over) (c : Then-weight-gt0 g) → c.contribution-amount.result * c.weight_for-weight.result ≤ 400000000000000000
product_in g c = mul-le-mul c.contribution-amount.ensures.most c.weight_for-weight.ensures.most

part_in : (g : given.Over) (c : Then-weight-gt0 g) →
    (g.T.Tariff.meaning c.args.sheet.now).rounded (c.contribution-amount.result * c.weight_for-weight.result) c.whole_weight-whole.result ≤ most_contribution
part_in g c =
    turn_part c.loop-item.invariant c.loop-member.invariant blank (omega arith) c.contribution-amount.result c.weight_for-weight.result (weighs g c) (serves_it g c)
    (g.T.Tariff.lawful c.args.sheet.now) c.whole_weight-whole.ensures.most c.contribution-amount.ensures.most

place_in : (g : given.Over) (c : Then-weight-gt0 g) → c.loop-member.next < length c.args.strip.now
place_in g c =
    let p = credit_place c.loop-member.invariant blank (omega arith) c.contribution-amount.result c.weight_for-weight.result c.contribution-amount.ensures.value (weighs g c)
    (serves_it g c) in
    let r = object_room c.loop-item.invariant nothing c.loop-item-test.true in
    let l = ap length (credits_are (g.T.Tariff.meaning c.args.sheet.now) (addition_in c.args.increase) c.whole_weight-whole.result c.args.objects.items.now c.args.roll.now (whole_asked _ c.up_to-weights.result c.up_to-weights.ensures.asked c.args.increase.index c.up_to-weights.ensures.index c.args.roll.now _ c.whole_weight-whole.ensures.value)) in
    omega (arith, p, r, l, c.requires.room)

pub invariant_of-rounded : goal.invariant_of-rounded
invariant_of-rounded g c = record {
  most = omega (arith, product_in g (goal.at.invariant_of-rounded g c).Then-weight-gt0);
  some = turn_whole c.loop-item.invariant c.loop-member.invariant blank (omega arith) c.contribution-amount.result c.weight_for-weight.result (weighs g c) (serves_it g c);
  small = omega (arith, c.whole_weight-whole.ensures.most);
}

pub line_of-requires : goal.line_of-requires
line_of-requires g c = record { most = omega (arith, part_in g (goal.at.line_of-requires g c).Then-weight-gt0, c.rounded-part.ensures.value) }

pub offset_bounds-strip-next : goal.offset_bounds-strip-next
offset_bounds-strip-next g c = omega (arith, place_in g (goal.at.offset_bounds-strip-next g c).Then-weight-gt0)

pub bounds-strip-next : goal.bounds-strip-next
bounds-strip-next g c = omega (arith, place_in g (goal.at.bounds-strip-next g c).Then-weight-gt0)

pub overflow_add-member : goal.overflow_add-member
overflow_add-member g c =
    let b = turn_balance c.loop-item.invariant c.loop-member.invariant blank (omega arith) in
    omega (arith, b, part_in g (goal.at.overflow_add-member g c).Then-weight-gt0, c.rounded-part.ensures.value)

pub overflow_add-credited : goal.overflow_add-credited
overflow_add-credited g c = omega (arith, c.loop-member.invariant.most, c.loop-item.invariant.sum_most, part_in g (goal.at.overflow_add-credited g c).Then-weight-gt0, c.rounded-part.ensures.value)

pub overflow_add-next : goal.overflow_add-next
overflow_add-next g c = omega (arith, place_in g (goal.at.overflow_add-next g c).Then-weight-gt0)

pub loop-member-preserved : goal.loop-member-preserved
loop-member-preserved g c =
    let m = g.T.Tariff.meaning c.args.sheet.now in
    let asked = c.up_to-weights.ensures.asked in
    let member = get_or c.loop-member.roll c.loop-member.member-index blank in
    let at_index = ap (λ i. weight_to m i member.tranches) c.up_to-weights.ensures.index in
    elim c.if-weight-gt0.branch [
      | then-weight-gt0 w ↦
          let own = c.weight_for-weight.ensures.value m asked w.if-weight-gt0.true in
          let due = ap (serves c.contribution-amount.result) own ∙ sym (c.weight_for-weight.ensures.due m asked) ∙ lt-ltb 0 c.weight_for-weight.result w.if-weight-gt0.true in
          let p = turn_part c.loop-item.invariant c.loop-member.invariant blank (omega arith) c.contribution-amount.result c.weight_for-weight.result (own ∙ at_index) due
          (g.T.Tariff.lawful c.args.sheet.now) c.whole_weight-whole.ensures.most c.contribution-amount.ensures.most in
          rw (w.roll-is, w.strip-is, w.credited-is, w.next-is)
          (inner_yes c.loop-member.invariant blank (omega arith) c.contribution-amount.result c.weight_for-weight.result c.contribution-amount.ensures.value (own ∙ at_index) due
          w.rounded-part.result w.rounded-part.ensures.value (omega (arith, p, w.rounded-part.ensures.value)) w.line_of.result w.line_of.ensures.value)
      | else-weight-gt0 w ↦
          let none = sym (c.weight_for-weight.ensures.due m asked) ∙ le-ltb 0 c.weight_for-weight.result (omega (arith, w.if-weight-gt0.false)) in
          rw (w.roll-is, w.strip-is, w.credited-is, w.next-is)
          (inner_no c.loop-member.invariant blank (omega arith) c.contribution-amount.result _ c.contribution-amount.ensures.value at_index none)
    ]

pub loop-item-preserved : goal.loop-item-preserved
loop-item-preserved g c =
    let t = inner_done c.loop-member.invariant (omega arith) (omega arith) in
    outer_next c.loop-item.invariant nothing c.loop-item-test.true (g.T.Tariff.lawful c.args.sheet.now) c.whole_weight-whole.ensures.most (omega arith)
    c.contribution-amount.result c.contribution-amount.ensures.value c.contribution-amount.ensures.most _ _ _ _ t (omega (arith, c.loop-member.invariant.most))

pub returns : goal.returns
returns g c =
    let m = g.T.Tariff.meaning c.args.sheet.now in
    let a = addition_in c.args.increase in
    let whole = c.whole_weight-whole.result in
    let is = (whole_asked _ c.up_to-weights.result c.up_to-weights.ensures.asked c.args.increase.index c.up_to-weights.ensures.index c.args.roll.now _ c.whole_weight-whole.ensures.value) in
    let e = credits_are m a whole c.args.objects.items.now c.args.roll.now is in
    let all = outer_done c.loop-item.invariant c.loop-item-test.false (omega (arith, ap length e, c.requires.room)) in
    record {
      moved =
          let credited = all.credited ∙ ap sums e in
          let unshared = unshared_is m a whole c.args.objects.items.now c.args.roll.now is _ _ all.contributed c.unshared_of.ensures.value in
          let number = all.number ∙ ap length e in
          (λ i. record { contributed = all.contributed i; credited = credited i; unshared = unshared i; credit_lines = number i });
      strip = all.strip_then ∙ ap (λ ls. written ls c.args.strip.now) e;
      roll = all.roll_then ∙ entries_are m a whole c.args.objects.items.now c.args.roll.now is;
      most =
          let given = c.loop-item.invariant.given_most in
          let sum = c.loop-item.invariant.sum_most in
          let count = lines_counted.credited m a c.args.objects.items.now (members_of c.args.roll.now) in
          let number = all.number ∙ ap length e in
          let members = length-map c.args.roll.now member_of in
          let few : length (members_of c.args.roll.now) ≤ 16 = omega (arith, members, c.requires.operators) in
          let product : length (members_of c.args.roll.now) * length c.args.objects.items.now ≤ 16 * 1024 = mul-le-mul few c.args.objects.few in
          record {
            contributed = omega (arith, given, c.args.objects.few);
            credited = omega (arith, sum, c.args.objects.few);
            unshared = omega (arith, given, c.unshared_of.ensures.most, c.args.objects.few);
            credit_lines = omega (arith, number, count, product);
          };
    }
