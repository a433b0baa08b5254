-- Sums of products over the years.
use Rattle.std.proofs.Common.{◌≡◌, ℕ, zero, suc, ◌+◌, ◌*◌, ◌<◌, ◌≤◌, true, ◌&&◌, leb, List, [], ◌∷◌, length, get_or, take, set, replicate, ⊎_elim, sym, refl, ap, ◌∙◌, mul-le-mul_left, mul-le-mul_right, add-mul, arith}
use Rattle.std.proofs.lemmas.Bool.{and_parts, leb-true, le-leb, cases_lt}
use Rattle.std.proofs.lemmas.Bool.Decides.{eqb_tells}
use Rattle.std.proofs.lemmas.List.{length-set, get_or-set_same, get_or-set_other}
use Rattle.tariff.specs.Most.{all_at_most}
use Rattle.tariff.specs.Meaning.{Meaning}
use Rattle.book.specs.Members.{rate_of, weighed, weight_to, whole_weight, members_of}
use Rattle.book.specs.Weights.{products, AreAsked}
use Rattle.book.specs.declared.entries.RollEntry.{RollEntry}
use Rattle.book.specs.declared.year_weights.YearWeights.{YearWeights}

pub products_none : (ts ws : List ℕ) → ((i : ℕ) → get_or ws i 0 ≡ 0) → products ts ws ≡ 0
products_none [] ws none = refl
products_none (t ∷ ts) [] none = refl
products_none (t ∷ ts) (w ∷ ws) none =
    let here : t * w ≡ 0 = ap (λ n. t * n) (none 0) ∙ omega arith in
    let rest = products_none ts ws (λ i. none (suc i)) in omega arith

-- the products of the first places alone, where the weights of the others are 0
pub products_first : (n : ℕ) (ts ws : List ℕ) → ((i : ℕ) → n ≤ i → get_or ws i 0 ≡ 0) → products (take n ts) (take n ws) ≡ products ts ws
products_first zero ts ws none = sym (products_none ts ws (λ i. none i (omega arith)))
products_first (suc n) [] ws none = refl
products_first (suc n) (t ∷ ts) [] none = refl
products_first (suc n) (t ∷ ts) (w ∷ ws) none = ap (λ r. t * w + r) (products_first n ts ws (λ i le. none (suc i) (omega arith)))

-- no more than the products of all places
pub products_part : (n : ℕ) (ts ws : List ℕ) → products (take n ts) (take n ws) ≤ products ts ws
products_part zero ts ws = omega arith
products_part (suc n) [] ws = omega arith
products_part (suc n) (t ∷ ts) [] = omega arith
products_part (suc n) (t ∷ ts) (w ∷ ws) = let rest = products_part n ts ws in omega arith

pub products_most : (b : ℕ) (ts ws : List ℕ) → all_at_most b ws ≡ true → products ts ws ≤ rate_of ts * b
products_most b [] ws small = omega arith
products_most b (t ∷ ts) [] small = omega arith
products_most b (t ∷ ts) (w ∷ ws) small =
    let both = and_parts (leb w b) (all_at_most b ws) small in
    let here : t * w ≤ t * b = mul-le-mul_left t (leb-true w b both.0) in
    let rest = products_most b ts ws both.1 in omega (arith, add-mul t (rate_of ts) b)

-- a weight within the limit in place of another
pub small_still : (b i w : ℕ) (ws : List ℕ) → w ≤ b → all_at_most b ws ≡ true → all_at_most b (set ws i w) ≡ true
small_still b i w [] le small = refl
small_still b zero w (v ∷ ws) le small = ap (λ t. t && all_at_most b ws) (le-leb w b le) ∙ (and_parts (leb v b) (all_at_most b ws) small).1
small_still b (suc i) w (v ∷ ws) le small =
    let both = and_parts (leb v b) (all_at_most b ws) small in
    ap (λ t. t && all_at_most b (set ws i w)) both.0 ∙ small_still b i w ws le both.1

-- weights by their places, from a year on: the products up to some places are the tranches weighed
pub products_weighed : (weight : ℕ → ℕ) (y k : ℕ) (ts ws : List ℕ) → length ts ≡ length ws → ((i : ℕ) → i < k → get_or ws i 0 ≡ weight (y + i)) → ((i : ℕ) → k ≤ i → get_or ws i 0 ≡ 0) →
    products ts ws ≡ weighed weight y (take k ts)
products_weighed weight y zero ts ws places own none = products_none ts ws (λ i. none i (omega arith))
products_weighed weight y (suc k) [] ws places own none = refl
products_weighed weight y (suc k) (t ∷ ts) [] places own none = absurd (omega arith)
products_weighed weight y (suc k) (t ∷ ts) (w ∷ ws) places own none =
    let here : t * w ≡ t * weight y = ap (λ n. t * n) (own 0 (omega arith) ∙ ap weight (omega arith)) in
    let rest = products_weighed weight (y + 1) k ts ws (omega arith) (λ i below. own (suc i) (omega arith) ∙ ap weight (omega arith)) (λ i le. none (suc i) (omega arith)) in omega arith

-- weights that a sheet was asked for give its weight of the tranches
module _ (m : Meaning) (weights : YearWeights) (asked : AreAsked m weights) (ts : List ℕ) (places : length ts ≡ length weights.by_index) where
  pub weight_is : products ts weights.by_index ≡ weight_to m weights.index ts
  weight_is =
      products_weighed m.weight 0 (weights.index + 1) ts weights.by_index places
      (λ i below. asked.own i (omega arith) ∙ ap m.weight (omega arith))
      (λ i le. asked.none i (omega arith))

  -- of the first places alone, where the year index is one of them
  pub weight_is_first : (n : ℕ) → weights.index < n → products (take n ts) (take n weights.by_index) ≡ weight_to m weights.index ts
  weight_is_first n within = products_first n ts weights.by_index (λ i le. asked.none i (omega arith)) ∙ weight_is

pub weight_in_limit : (b : ℕ) (ts ws : List ℕ) → all_at_most b ws ≡ true → rate_of ts ≤ 20 → products ts ws ≤ 20 * b
weight_in_limit b ts ws small few =
    let most = products_most b ts ws small in
    let fits = mul-le-mul_right b few in omega (arith, most, fits)

pub zeros : (n y : ℕ) → get_or (replicate {A = ℕ} n 0) y 0 ≡ 0
zeros zero y = refl
zeros (suc n) zero = refl
zeros (suc n) (suc y) = zeros n y

-- one year more is asked for
pub one_asked : (m : Meaning) (ws : List ℕ) (year : ℕ) → length ws ≡ 41 → ((y : ℕ) → y < year → get_or ws y 0 ≡ m.weight y) → ((y : ℕ) → year ≤ y → get_or ws y 0 ≡ 0) → all_at_most 200 ws ≡ true →
    (w : ℕ) → w ≡ m.weight year → m.weight year ≤ 200 → year < 41 →
    (length (set ws year w) ≡ 41) × ((y : ℕ) → y < year + 1 → get_or (set ws year w) y 0 ≡ m.weight y) × ((y : ℕ) → year + 1 ≤ y → get_or (set ws year w) y 0 ≡ 0) × (all_at_most 200 (set ws year w) ≡ true)
one_asked m ws year places own none small w is fits inside = (
  omega (arith, length-set ws year w),
  λ y below. ⊎_elim
      (λ same. ap (λ k. get_or (set ws year w) k 0) same.1 ∙ get_or-set_same ws year w 0 (omega arith) ∙ is ∙ ap m.weight (sym same.1))
      (λ other. get_or-set_other ws year y w 0 other.1 ∙ own y (let differ = other.1 in lt_of_ne y year below differ))
      (eqb_tells y year),
  λ y le. get_or-set_other ws year y w 0 (λ same. omega arith) ∙ none y (omega arith),
  small_still 200 year w ws (omega arith) small,
)
  where
    lt_of_ne : (y year : ℕ) → y < year + 1 → (y ≡ year → ⊥) → y < year
    lt_of_ne y year below differ = ⊎_elim (λ lt. lt) (λ ge. absurd (differ (omega arith))) (cases_lt y year)

-- the whole weight by weights that a sheet was asked for, up to a year index
pub whole_asked : (m : Meaning) (weights : YearWeights) → AreAsked m weights → (index : ℕ) → weights.index ≡ index → (roll : List RollEntry) (whole : ℕ) →
    ((m' : Meaning) → AreAsked m' weights → whole ≡ whole_weight m' weights.index (members_of roll)) → whole ≡ whole_weight m index (members_of roll)
whole_asked m weights asked index same roll whole is = is m asked ∙ ap (λ i. whole_weight m i (members_of roll)) same
