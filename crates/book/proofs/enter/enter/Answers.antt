use Rattle.std.proofs.Common.{◌≡◌, [], get_or, take, set, sym, ap, ◌∙◌, arith}
use Rattle.std.proofs.lemmas.List.{get_or-take, length-take-le}
use Rattle.book.specs.Members.{rate_of}
use Rattle.book.specs.Increases.{addition_in}
use Rattle.book.specs.declared.entries.RollEntry.{RollEntry}
use Rattle.book.proofs.Subscribing.{year_most, rate_at, first_is, place_counted, entered_here, entered_count, entered_new}
use Rattle.book.proofs.enter.enter.Goals as goal

abbrev blank : RollEntry
blank = record { operator = 0; tranches = []; balance = 0 }

pub overflow_add-roll : goal.overflow_add-roll
overflow_add-roll c =
    let roll = c.args.roll.now in
    let n = c.args.counted in
    let i = c.in-Some.place in
    let h = place_counted (addition_in c.args.increase) roll n c.requires.counted blank i (sym c.in-Some.ensures.value) in
    let l = length-take-le n roll c.requires.counted in
    let r = rate_at (take n roll) c.requires.rates i blank (omega arith) in
    let e : rate_of (get_or (take n roll) i blank).tranches ≡ rate_of (get_or roll i blank).tranches =
    ap (λ (x : RollEntry). rate_of x.tranches) (get_or-take n roll i blank (omega arith)) in
    let y = year_most (get_or roll i blank).tranches c.args.increase.index in
    omega (arith, c.args.increase.few)

pub returns-in-Some : goal.returns-in-Some
returns-in-Some c =
    let here = entered_here (addition_in c.args.increase) c.args.roll.now c.args.counted c.requires.counted blank c.in-Some.place (sym c.in-Some.ensures.value) in
    record { number = here.0; roll = here.1 }

pub bounds-roll-counted : goal.bounds-roll-counted
bounds-roll-counted c =
    let e = entered_count (addition_in c.args.increase) c.args.roll.now c.args.counted c.requires.counted blank (sym c.in-None.ensures.value) in
    omega (arith, c.requires.room)

pub returns-in-None : goal.returns-in-None
returns-in-None c =
    let a = addition_in c.args.increase in
    let none = sym c.in-None.ensures.value in
    let w = entered_new a c.args.roll.now c.args.counted c.requires.counted blank none c.requires.room in
    record {
      number = entered_count a c.args.roll.now c.args.counted c.requires.counted blank none;
      roll = (λ k. set c.args.roll.now c.args.counted (record { operator = c.args.increase.operator; tranches = first_is a c.args.increase.in_time k; balance = 0 })) ∙ w;
    }
