-- A share-out, one object and one operator at a time.
--   lines_of, lines_all   the credit lines of one object, of several, by a whole weight
--   paid_of, paid_all     an entry with its share of one object, of several, on its balance
--   Inner, Outer          what the two loops have done
use Rattle.std.proofs.Common.{◌≡◌, ℕ, zero, suc, ◌+◌, ◌*◌, ◌<◌, ◌≤◌, Bool, true, false, cond, eqb, List, [], ◌∷◌, ◌++◌, length, get_or, take, drop, set, sym, refl, ap, ◌∙◌, subst, ⊎_elim, add-zero, add_assoc, mul-le-mul_right, add-mul, mul-le-mul, mul-le-mul_left, one-mul, zero-add, mul-one, arith, flat_map, map}
use Rattle.std.specs.List.{AllByRecursion}
use Rattle.std.proofs.ByRecursion.{All-get_or}
use Rattle.std.proofs.lemmas.List.{length-append, length-drop, drop-drop, drop-set-lt, set-get_or, take_more, take_more_set, take_all, get_or-drop, at_drop_more, at_drop_all, map-append}
use Rattle.std.proofs.lemmas.Bool.{cases_lt, cond-true, cond-false}
use Rattle.tariff.specs.Meaning.{Meaning, Lawful}
use Rattle.book.specs.Limits.{most_amount, most_contribution, most_whole_weight}
use Rattle.book.specs.Lists.{total, written}
use Rattle.book.specs.Lines.{line}
use Rattle.book.specs.Members.{member_of, members_of, rate_of, weight_to, whole_weight, Addition}
use Rattle.book.specs.Sharing.{object_contribution, amount_divided, serves, share_of, payout, credit, credits, left_unshared}
use Rattle.book.specs.Answers.{with_credit, credited_roll}
use Rattle.book.specs.declared.entries.RollEntry.{RollEntry}
use Rattle.book.specs.declared.entries.RegisterEntry.{RegisterEntry}
use Rattle.book.specs.declared.lines.Line.{Line}
use Rattle.book.specs.declared.lines.Nature.TheVariants.{Credit}
use Rattle.book.proofs.Totals.{total_append, all_also}
use Rattle.book.proofs.Writing.{Writing, at_start, has_place, write_one, write_none, write_many, all_written}

pub due_both : (amount weight : ℕ) → serves amount weight ≡ true → (0 < amount) × (0 < weight)
due_both zero w h = let z : ◌≡◌ {A = ℕ} 0 1 = cc in absurd (omega arith)
due_both (suc n) zero h = let z : ◌≡◌ {A = ℕ} 0 1 = cc in absurd (omega arith)
due_both (suc n) (suc w) h = (omega arith, omega arith)

-- a share of a weight within the whole is at most the amount
pub share_most : (m : Meaning) → Lawful m → (amount weight whole : ℕ) → amount ≤ most_contribution → weight ≤ whole → 0 < whole → whole ≤ most_whole_weight → m.rounded (amount * weight) whole ≤ amount
share_most m law amount weight whole small le some few =
    let r = m.rounded (amount * weight) whole in
    let fits : amount * weight ≤ most_contribution * most_whole_weight = mul-le-mul small (let q : weight ≤ most_whole_weight = omega arith in q) in
    let near = law.near (amount * weight) whole (omega arith) some (omega arith) in
    let most = mul-le-mul_left amount le in
    ⊎_elim (λ lt. omega arith)
    (λ ge. absurd (omega (arith, mul-le-mul_right whole ge, near.over, add-mul amount 1 whole, one-mul whole)))
    (cases_lt r (amount + 1))

map_more : {A B : Type 0} (f : A → B) (xs : List A) (i : ℕ) (d : A) → i < length xs → map f (take (i + 1) xs) ≡ map f (take i xs) ++ f (get_or xs i d) ∷ []
map_more f xs i d h = ap (map f) (take_more xs i d h) ∙ map-append f (take i xs) (get_or xs i d ∷ [])

abbrev pub sums : List Line → ℕ
sums ls = total (λ l. l.total) ls

module _ (m : Meaning) (a : Addition) (whole : ℕ) where
  abbrev pub lines_of : RegisterEntry → List RollEntry → List Line
  lines_of o roll = flat_map (credit m a whole o) (members_of roll)

  abbrev pub lines_all : List RegisterEntry → List RollEntry → List Line
  lines_all os roll = flat_map (λ o. flat_map (credit m a whole o) (members_of roll)) os

  abbrev pub paid_of : RegisterEntry → RollEntry → RollEntry
  paid_of o e = with_credit (share_of m a whole o e.tranches) e

  abbrev pub paid_all : List RegisterEntry → RollEntry → RollEntry
  paid_all os e = with_credit (payout m a whole os e.tranches) e

  abbrev pub weight_in : RollEntry → ℕ
  weight_in e = weight_to m a.index e.tranches

  -- a credit leaves operator and tranches, so lines and weights do not change with balances
  lines_blind : (o : RegisterEntry) (f : RollEntry → ℕ) (roll : List RollEntry) → lines_of o (map (λ e. with_credit (f e) e) roll) ≡ lines_of o roll
  lines_blind o f [] = refl
  lines_blind o f (e ∷ es) = ap (λ ls. credit m a whole o (member_of e) ++ ls) (lines_blind o f es)

  all_blind : (os : List RegisterEntry) (f : RollEntry → ℕ) (roll : List RollEntry) → lines_all os (map (λ e. with_credit (f e) e) roll) ≡ lines_all os roll
  all_blind [] f roll = refl
  all_blind (o ∷ os) f roll = (λ k. lines_blind o f roll k ++ all_blind os f roll k)

  weight_blind : (f : RollEntry → ℕ) (roll : List RollEntry) → whole_weight m a.index (members_of (map (λ e. with_credit (f e) e) roll)) ≡ whole_weight m a.index (members_of roll)
  weight_blind f [] = refl
  weight_blind f (e ∷ es) = ap (λ n. weight_in e + n) (weight_blind f es)

  -- one object after the other
  paid_then : (o : RegisterEntry) (os : List RegisterEntry) (e : RollEntry) → paid_all os (paid_of o e) ≡ paid_all (o ∷ os) e
  paid_then o os e =
      ap (λ b. record { operator = e.operator; tranches = e.tranches; balance = b })
      (add_assoc e.balance (share_of m a whole o e.tranches) (payout m a whole os e.tranches))

  paid_each : (o : RegisterEntry) (os : List RegisterEntry) (roll : List RollEntry) → map (paid_all os) (map (paid_of o) roll) ≡ map (paid_all (o ∷ os)) roll
  paid_each o os [] = refl
  paid_each o os (e ∷ es) = (λ k. paid_then o os e k ∷ paid_each o os es k)

  paid_none : (roll : List RollEntry) → map (paid_all []) roll ≡ roll
  paid_none [] = refl
  paid_none (e ∷ es) = (λ k. record { operator = e.operator; tranches = e.tranches; balance = add-zero e.balance k } ∷ paid_none es k)

-- one object: some entries are done, and the others are as they were
module _ (m : Meaning) (a : Addition) (whole : ℕ) (o : RegisterEntry) (roll₁ : List RollEntry) (strip₁ : List Line) (at paid₁ : ℕ) where
  pub record Inner (i n paid : ℕ) (roll : List RollEntry) (strip : List Line) : Type 0 where
    pub front : take i roll ≡ map (paid_of m a whole o) (take i roll₁)
    pub rest : drop i roll ≡ drop i roll₁
    pub lines : Writing at strip₁ (lines_of m a whole o roll₁) (lines_of m a whole o (drop i roll₁)) n strip
    pub sum : paid + sums (lines_of m a whole o (drop i roll₁)) ≡ paid₁ + sums (lines_of m a whole o roll₁)
    pub most : paid ≤ paid₁ + most_contribution * i

  pub inner_start : Inner 0 at paid₁ roll₁ strip₁
  inner_start = record { front = refl; rest = refl; lines = at_start at strip₁ (lines_of m a whole o roll₁); sum = refl; most = omega arith }

module _ {m : Meaning} {a : Addition} {whole : ℕ} {o : RegisterEntry} {roll₁ : List RollEntry} {strip₁ : List Line} {at paid₁ i n paid : ℕ} {roll : List RollEntry} {strip : List Line}
    (s : Inner m a whole o roll₁ strip₁ at paid₁ i n paid roll strip) (d : RollEntry) (h : i < length roll) where
  pub read : get_or roll i d ≡ get_or roll₁ i d
  read =
      sym (ap (λ k. get_or roll k d) (add-zero i)) ∙ sym (get_or-drop i roll 0 d) ∙ ap (λ l. get_or l 0 d) s.rest ∙
      get_or-drop i roll₁ 0 d ∙ ap (λ k. get_or roll₁ k d) (add-zero i)

  pub there : i < length roll₁
  there = omega (arith, ap length s.rest, length-drop i roll, length-drop i roll₁)

  next_rest : drop (i + 1) roll ≡ drop (i + 1) roll₁
  next_rest = sym (drop-drop 1 i roll) ∙ ap (drop 1) s.rest ∙ drop-drop 1 i roll₁

  lines_here : lines_of m a whole o (drop i roll₁) ≡ credit m a whole o (member_of (get_or roll i d)) ++ lines_of m a whole o (drop (i + 1) roll₁)
  lines_here =
      at_drop_more (lines_of m a whole o) roll₁ i d there ∙
      ap (λ e. credit m a whole o (member_of e) ++ lines_of m a whole o (drop (i + 1) roll₁)) (sym read)

  -- by the amount and the weight that the code has
  module _ (amount weight : ℕ) (is_a : amount ≡ amount_divided m a o) (is_w : weight ≡ weight_to m a.index (get_or roll i d).tranches) where
    due_is : serves amount weight ≡ serves (amount_divided m a o) (weight_to m a.index (get_or roll i d).tranches)
    due_is = (λ k. serves (is_a k) (is_w k))

    module _ (due : serves amount weight ≡ true) where
      credit_here : credit m a whole o (member_of (get_or roll i d)) ≡ line Credit (get_or roll i d).operator o.object (m.rounded (amount * weight) whole) 1 ∷ []
      credit_here =
          cond-true _ _ _ (sym due_is ∙ due) ∙
          (λ k. line Credit (get_or roll i d).operator o.object (m.rounded (sym is_a k * sym is_w k) whole) 1 ∷ [])

      line_left : lines_of m a whole o (drop i roll₁) ≡ line Credit (get_or roll i d).operator o.object (m.rounded (amount * weight) whole) 1 ∷ lines_of m a whole o (drop (i + 1) roll₁)
      line_left = lines_here ∙ ap (λ ls. ls ++ lines_of m a whole o (drop (i + 1) roll₁)) credit_here

      pub credit_place : n < at + length (lines_of m a whole o roll₁)
      credit_place = has_place s.lines _ _ line_left

      share_here : share_of m a whole o (get_or roll i d).tranches ≡ m.rounded (amount * weight) whole
      share_here =
          cond-true _ _ _ (sym due_is ∙ due) ∙ mul-one _ ∙ (λ k. m.rounded (sym is_a k * sym is_w k) whole)

      pub inner_yes : (part : ℕ) → part ≡ m.rounded (amount * weight) whole → part ≤ most_contribution → (x : Line) → x ≡ line Credit (get_or roll i d).operator o.object part 1 →
          Inner m a whole o roll₁ strip₁ at paid₁ (i + 1) (n + 1) (paid + part)
          (set roll i (record { operator = (get_or roll i d).operator; tranches = (get_or roll i d).tranches; balance = (get_or roll i d).balance + part })) (set strip n x)
      inner_yes part is_p small x is_x =
          let entry : record { operator = (get_or roll i d).operator; tranches = (get_or roll i d).tranches; balance = (get_or roll i d).balance + part } ≡ paid_of m a whole o (get_or roll₁ i d) =
          ap (λ p. with_credit p (get_or roll i d)) (is_p ∙ sym share_here) ∙ ap (paid_of m a whole o) read in
          let t = ap sums line_left in
          let u : m.rounded (amount * weight) whole * 1 ≡ part = mul-one _ ∙ sym is_p in
          record {
            front = take_more_set roll i _ h ∙ (λ k. s.front k ++ entry k ∷ []) ∙ sym (map_more (paid_of m a whole o) roll₁ i d there);
            rest = drop-set-lt (i + 1) roll i _ (omega arith) ∙ next_rest;
            lines = write_one s.lines _ x _ (is_x ∙ ap (λ p. line Credit (get_or roll i d).operator o.object p 1) is_p) line_left;
            sum = omega (arith, s.sum, t, u);
            most = omega (arith, s.most);
          }

    pub inner_no : serves amount weight ≡ false → Inner m a whole o roll₁ strip₁ at paid₁ (i + 1) n paid (set roll i (get_or roll i d)) strip
    inner_no none =
        let left : lines_of m a whole o (drop i roll₁) ≡ lines_of m a whole o (drop (i + 1) roll₁) =
        lines_here ∙ ap (λ ls. ls ++ lines_of m a whole o (drop (i + 1) roll₁)) (cond-false _ _ _ (sym due_is ∙ none)) in
        let zero_share : share_of m a whole o (get_or roll i d).tranches ≡ 0 = cond-false _ _ _ (sym due_is ∙ none) in
        let same : get_or roll i d ≡ paid_of m a whole o (get_or roll₁ i d) =
        ap (λ b. record { operator = (get_or roll i d).operator; tranches = (get_or roll i d).tranches; balance = b }) (sym (add-zero (get_or roll i d).balance)) ∙
        ap (λ p. with_credit p (get_or roll i d)) (sym zero_share) ∙ ap (paid_of m a whole o) read in
        rw (set-get_or roll i d) (record {
          front = take_more roll i d h ∙ (λ k. s.front k ++ same k ∷ []) ∙ sym (map_more (paid_of m a whole o) roll₁ i d there);
          rest = next_rest;
          lines = write_none s.lines _ left;
          sum = omega (arith, s.sum, ap sums left);
          most = omega (arith, s.most);
        })

-- what one object leaves
pub record Turned (m : Meaning) (a : Addition) (whole : ℕ) (o : RegisterEntry) (roll₁ : List RollEntry) (strip₁ : List Line) (at paid₁ n paid : ℕ) (roll : List RollEntry) (strip : List Line) : Type 0 where
  pub entries : roll ≡ map (paid_of m a whole o) roll₁
  pub lines : Writing at strip₁ (lines_of m a whole o roll₁) [] n strip
  pub sum : paid ≡ paid₁ + sums (lines_of m a whole o roll₁)

pub inner_done : {m : Meaning} {a : Addition} {whole : ℕ} {o : RegisterEntry} {roll₁ : List RollEntry} {strip₁ : List Line} {at paid₁ i n paid : ℕ} {roll : List RollEntry} {strip : List Line} →
    Inner m a whole o roll₁ strip₁ at paid₁ i n paid roll strip → length roll ≤ i → length roll ≡ length roll₁ → Turned m a whole o roll₁ strip₁ at paid₁ n paid roll strip
inner_done {m} {a} {whole} {o} {roll₁} {strip₁} {at} {paid₁} {i} {n} {paid} {roll} {strip} s h same =
    let none : lines_of m a whole o (drop i roll₁) ≡ [] = at_drop_all (lines_of m a whole o) roll₁ i (omega arith) in
    record {
      entries = sym (take_all i roll h) ∙ s.front ∙ ap (map (paid_of m a whole o)) (take_all i roll₁ (omega arith));
      lines = write_none s.lines [] none;
      sum = omega (arith, s.sum, ap sums none);
    }

-- all objects: some are done, and those that are left give the result
module _ (m : Meaning) (a : Addition) (whole : ℕ) (os : List RegisterEntry) (roll₀ : List RollEntry) (strip₀ : List Line) where
  pub record Outer (k n brought paid : ℕ) (roll : List RollEntry) (strip : List Line) : Type 0 where
    pub lines : Writing 0 strip₀ (lines_all m a whole os roll₀) (lines_all m a whole (drop k os) roll) n strip
    pub entries : map (paid_all m a whole (drop k os)) roll ≡ map (paid_all m a whole os) roll₀
    pub weighs : whole ≡ whole_weight m a.index (members_of roll)
    pub rates : AllByRecursion (λ e. rate_of e.tranches ≤ 20) roll
    pub balances : AllByRecursion (λ e. e.balance ≤ most_amount + most_contribution * k) roll
    pub given : brought + total (object_contribution m a) (drop k os) ≡ total (object_contribution m a) os
    pub given_most : brought ≤ most_contribution * k
    pub sum : paid + sums (lines_all m a whole (drop k os) roll) ≡ sums (lines_all m a whole os roll₀)
    pub sum_most : paid ≤ 1600000000000000 * k

  pub outer_start : whole ≡ whole_weight m a.index (members_of roll₀) → AllByRecursion (λ e. rate_of e.tranches ≤ 20) roll₀ → AllByRecursion (λ e. e.balance ≤ most_amount) roll₀ → Outer 0 0 0 0 roll₀ strip₀
  outer_start is rates held = record {
    lines = at_start 0 strip₀ (lines_all m a whole os roll₀);
    entries = refl;
    weighs = is;
    rates = rates;
    balances = all_also (λ e b. omega arith) roll₀ held;
    given = zero-add _;
    given_most = omega arith;
    sum = zero-add _;
    sum_most = omega arith;
  }

-- what every entry has after its share of an object
paid_rates : (m : Meaning) (a : Addition) (whole : ℕ) (o : RegisterEntry) (roll : List RollEntry) → AllByRecursion (λ e. rate_of e.tranches ≤ 20) roll → AllByRecursion (λ e. rate_of e.tranches ≤ 20) (map (paid_of m a whole o) roll)
paid_rates m a whole o [] h = tt
paid_rates m a whole o (e ∷ es) h = (h.0, paid_rates m a whole o es h.1)

paid_balances : (m : Meaning) (a : Addition) (whole : ℕ) (o : RegisterEntry) (b : ℕ) → ((e : RollEntry) → weight_to m a.index e.tranches ≤ whole → share_of m a whole o e.tranches ≤ most_contribution) →
    (roll : List RollEntry) → whole_weight m a.index (members_of roll) ≤ whole → AllByRecursion (λ e. e.balance ≤ b) roll → AllByRecursion (λ e. e.balance ≤ b + most_contribution) (map (paid_of m a whole o) roll)
paid_balances m a whole o b most [] le h = tt
paid_balances m a whole o b most (e ∷ es) le h =
    (let s = most e (omega arith) in omega (arith, h.0), paid_balances m a whole o b most es (omega arith) h.1)

share_small : (m : Meaning) → Lawful m → (a : Addition) (whole : ℕ) → whole ≤ most_whole_weight → (o : RegisterEntry) → object_contribution m a o ≤ most_contribution → (e : RollEntry) → weight_to m a.index e.tranches ≤ whole →
    share_of m a whole o e.tranches ≤ most_contribution
share_small m law a whole few o small e le = go (serves (amount_divided m a o) (weight_to m a.index e.tranches)) refl
  where
    go : (b : Bool) → serves (amount_divided m a o) (weight_to m a.index e.tranches) ≡ b → cond b (m.rounded (amount_divided m a o * weight_to m a.index e.tranches) whole * 1) 0 ≤ most_contribution
    go false q = omega arith
    go true q =
        let p = due_both (amount_divided m a o) (weight_to m a.index e.tranches) q in
        let r = share_most m law (amount_divided m a o) (weight_to m a.index e.tranches) whole small le (omega arith) few in omega arith

module _ {m : Meaning} {a : Addition} {whole : ℕ} {os : List RegisterEntry} {roll₀ : List RollEntry} {strip₀ : List Line} {k n brought paid : ℕ} {roll : List RollEntry} {strip : List Line}
    (s : Outer m a whole os roll₀ strip₀ k n brought paid roll strip) (d : RegisterEntry) (h : k < length os) where
  lines_next : lines_all m a whole (drop k os) roll ≡ lines_of m a whole (get_or os k d) roll ++ lines_all m a whole (drop (k + 1) os) roll
  lines_next = at_drop_more (λ gs. lines_all m a whole gs roll) os k d h

  -- the lines of this object have their places
  pub object_room : n + length (lines_of m a whole (get_or os k d) roll) ≤ length (lines_all m a whole os roll₀)
  object_room =
      omega (arith, s.lines.count, ap length lines_next, length-append (lines_of m a whole (get_or os k d) roll) (lines_all m a whole (drop (k + 1) os) roll))

  pub outer_next : Lawful m → whole ≤ most_whole_weight → length roll ≤ 16 → (amount : ℕ) → amount ≡ object_contribution m a (get_or os k d) → amount ≤ most_contribution → (n' paid' : ℕ) (roll' : List RollEntry) (strip' : List Line) →
      Turned m a whole (get_or os k d) roll strip n paid n' paid' roll' strip' → paid' ≤ paid + 1600000000000000 → Outer m a whole os roll₀ strip₀ (k + 1) n' (brought + amount) paid' roll' strip'
  outer_next law few short amount is_a small n' paid' roll' strip' t most =
      let o = get_or os k d in
      let blind : lines_all m a whole (drop (k + 1) os) roll ≡ lines_all m a whole (drop (k + 1) os) roll' =
      sym (all_blind m a whole (drop (k + 1) os) (λ e. share_of m a whole o e.tranches) roll) ∙ ap (lines_all m a whole (drop (k + 1) os)) (sym t.entries) in
      let here : lines_all m a whole (drop k os) roll ≡ lines_of m a whole o roll ++ lines_all m a whole (drop (k + 1) os) roll' =
      lines_next ∙ ap (λ ls. lines_of m a whole o roll ++ ls) blind in
      let parts = total_append (λ l. l.total) (lines_of m a whole o roll) (lines_all m a whole (drop (k + 1) os) roll') in
      let g = at_drop_more (total (object_contribution m a)) os k d h in
      record {
        lines = write_many s.lines (lines_of m a whole o roll) _ here n' strip' t.lines;
        entries =
            ap (map (paid_all m a whole (drop (k + 1) os))) t.entries ∙ paid_each m a whole o (drop (k + 1) os) roll ∙
            sym (at_drop_more (λ gs. map (paid_all m a whole gs) roll) os k d h) ∙ s.entries;
        weighs = s.weighs ∙ sym (ap (λ es. whole_weight m a.index (members_of es)) t.entries ∙ weight_blind m a whole (λ e. share_of m a whole o e.tranches) roll);
        rates = subst (AllByRecursion (λ e. rate_of e.tranches ≤ 20)) (sym t.entries) (paid_rates m a whole o roll s.rates);
        balances =
            subst (AllByRecursion (λ e. e.balance ≤ most_amount + most_contribution * (k + 1))) (sym t.entries)
            (all_also (λ e b. omega arith) _
            (paid_balances m a whole o (most_amount + most_contribution * k) (share_small m law a whole few o (omega arith)) roll (let w = s.weighs in omega arith) s.balances));
        given = omega (arith, s.given, g);
        given_most = omega (arith, s.given_most);
        sum = omega (arith, s.sum, t.sum, ap sums here, parts);
        sum_most = omega (arith, s.sum_most);
      }

module _ {m : Meaning} {a : Addition} {whole : ℕ} {os : List RegisterEntry} {roll₀ : List RollEntry} {strip₀ : List Line} {k n brought paid : ℕ} {roll : List RollEntry} {strip : List Line}
    (s : Outer m a whole os roll₀ strip₀ k n brought paid roll strip) where
  -- what the loop over all objects comes to
  pub record AllShared : Type 0 where
    pub number : n ≡ length (lines_all m a whole os roll₀)
    pub strip_then : strip ≡ written (lines_all m a whole os roll₀) strip₀
    pub roll_then : roll ≡ map (paid_all m a whole os) roll₀
    pub contributed : brought ≡ total (object_contribution m a) os
    pub credited : paid ≡ sums (lines_all m a whole os roll₀)

  pub outer_done : length os ≤ k → length (lines_all m a whole os roll₀) ≤ length strip₀ → AllShared
  outer_done h room =
      let none : lines_all m a whole (drop k os) roll ≡ [] = at_drop_all (λ gs. lines_all m a whole gs roll) os k h in
      let (count, filled) = all_written s.lines none room in
      record {
        number = count;
        strip_then = filled;
        roll_then = sym (paid_none m a whole roll) ∙ sym (at_drop_all (λ gs. map (paid_all m a whole gs) roll) os k h) ∙ s.entries;
        contributed = omega (arith, s.given, at_drop_all (total (object_contribution m a)) os k h);
        credited = omega (arith, s.sum, ap sums none);
      }

  pub rate_in : (i : ℕ) (d : RollEntry) → i < length roll → rate_of (get_or roll i d).tranches ≤ 20
  rate_in i d h = All-get_or (λ e. rate_of e.tranches ≤ 20) roll i d h s.rates

  pub balance_in : (i : ℕ) (d : RollEntry) → i < length roll → (get_or roll i d).balance ≤ most_amount + most_contribution * k
  balance_in i d h = All-get_or (λ e. e.balance ≤ most_amount + most_contribution * k) roll i d h s.balances

  pub weight_within : (i : ℕ) (d : RollEntry) → i < length roll → weight_to m a.index (get_or roll i d).tranches ≤ whole
  weight_within i d h = let p = weights_part roll i d h in let w = s.weighs in omega arith
    where
      weights_part : (es : List RollEntry) (i : ℕ) (d : RollEntry) → i < length es → weight_to m a.index (get_or es i d).tranches ≤ whole_weight m a.index (members_of es)
      weights_part [] i d h = absurd (omega arith)
      weights_part (e ∷ es) zero d h = omega arith
      weights_part (e ∷ es) (suc i) d h = let r = weights_part es i d (omega arith) in omega arith

-- what the turn of an operator within that of an object knows
module _ {m : Meaning} {a : Addition} {whole : ℕ} {os : List RegisterEntry} {roll₀ : List RollEntry} {strip₀ : List Line} {k at brought paid₁ : ℕ} {roll₁ : List RollEntry} {strip₁ : List Line} {o : RegisterEntry} {i n paid : ℕ} {roll : List RollEntry} {strip : List Line}
    (s : Outer m a whole os roll₀ strip₀ k at brought paid₁ roll₁ strip₁) (t : Inner m a whole o roll₁ strip₁ at paid₁ i n paid roll strip) (d : RollEntry) (h : i < length roll) where
  pub turn_weight : (weight : ℕ) → weight ≡ weight_to m a.index (get_or roll i d).tranches → weight ≤ whole
  turn_weight weight is = let r = weight_within s i d (there t d h) in let e = ap (λ (x : RollEntry). weight_to m a.index x.tranches) (read t d h) in omega arith

  pub turn_balance : (get_or roll i d).balance ≤ most_amount + most_contribution * k
  turn_balance = let r = balance_in s i d (there t d h) in let e = ap (λ (x : RollEntry). x.balance) (read t d h) in omega arith

  module _ (amount weight : ℕ) (is_w : weight ≡ weight_to m a.index (get_or roll i d).tranches) (due : serves amount weight ≡ true) where
    pub turn_whole : 0 < whole
    turn_whole = let p = due_both amount weight due in let w = turn_weight weight is_w in omega arith

    pub turn_part : Lawful m → whole ≤ most_whole_weight → amount ≤ most_contribution → m.rounded (amount * weight) whole ≤ most_contribution
    turn_part law few small = let p = share_most m law amount weight whole small (turn_weight weight is_w) turn_whole few in omega arith

-- the whole weight that the code has is that of the roll
module _ (m : Meaning) (a : Addition) (whole : ℕ) (os : List RegisterEntry) (roll₀ : List RollEntry) (is : whole ≡ whole_weight m a.index (members_of roll₀)) where
  pub credits_are : lines_all m a whole os roll₀ ≡ credits m a os (members_of roll₀)
  credits_are = ap (λ w. lines_all m a w os roll₀) is

  pub entries_are : map (paid_all m a whole os) roll₀ ≡ credited_roll m a os roll₀
  entries_are = ap (λ w. map (paid_all m a w os) roll₀) is

  pub unshared_is : (brought left : ℕ) → brought ≡ total (object_contribution m a) os → left ≡ cond (eqb whole 0) brought 0 → left ≡ left_unshared m a os (members_of roll₀)
  unshared_is brought left e f = f ∙ (λ k. cond (eqb (is k) 0) (e k) 0)
