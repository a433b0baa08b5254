-- Laws of totals over lists.
use Rattle.std.proofs.Common.{◌≡◌, ℕ, suc, ◌+◌, ◌*◌, ◌≤◌, List, [], ◌∷◌, ◌++◌, length, take, sym, refl, ap, mul-zero, mul-suc, mul-add, arith, length-append, flat_map, map, sum, sum_by}
use Rattle.std.specs.List.{AllByRecursion}
use Rattle.std.proofs.lemmas.List.Sums.{sum_by-cons}
use Rattle.book.specs.Lists.{total}

-- the library's sums
sum_by_is : {A : Type 0} (f : A → ℕ) (xs : List A) → sum_by f xs ≡ total f xs
sum_by_is f [] = refl
sum_by_is f (x ∷ xs) = let t = sum_by_is f xs in omega (arith, sum_by-cons f x xs)

pub sum_is_total : (xs : List ℕ) → sum xs ≡ total (λ t. t) xs
sum_is_total xs = sum_by_is (λ t. t) xs

pub total_same : {A : Type 0} (f g : A → ℕ) → ((x : A) → f x ≡ g x) → (xs : List A) → total f xs ≡ total g xs
total_same f g e [] = refl
total_same f g e (x ∷ xs) = let h = e x in let t = total_same f g e xs in omega arith

pub total_append : {A : Type 0} (f : A → ℕ) (xs ys : List A) → total f (xs ++ ys) ≡ total f xs + total f ys
total_append f [] ys = omega arith
total_append f (x ∷ xs) ys = let t = total_append f xs ys in omega arith

pub total_map : {A B : Type 0} (f : B → ℕ) (g : A → B) (xs : List A) → total f (map g xs) ≡ total (λ x. f (g x)) xs
total_map f g [] = refl
total_map f g (x ∷ xs) = let t = total_map f g xs in omega arith

pub total_flat_map : {A B : Type 0} (f : B → ℕ) (g : A → List B) (xs : List A) → total f (flat_map g xs) ≡ total (λ x. total f (g x)) xs
total_flat_map f g [] = refl
total_flat_map f g (x ∷ xs) = let t = total_flat_map f g xs in let h = total_append f (g x) (flat_map g xs) in omega arith

pub length_flat_map : {A B : Type 0} (g : A → List B) (xs : List A) → length (flat_map g xs) ≡ total (λ x. length (g x)) xs
length_flat_map g [] = refl
length_flat_map g (x ∷ xs) = let t = length_flat_map g xs in let h = length-append (g x) (flat_map g xs) in omega arith

pub total_zero : {A : Type 0} (xs : List A) → total (λ x. 0) xs ≡ 0
total_zero [] = refl
total_zero (x ∷ xs) = let t = total_zero xs in omega arith

pub total_add : {A : Type 0} (f g : A → ℕ) (xs : List A) → total (λ x. f x + g x) xs ≡ total f xs + total g xs
total_add f g [] = omega arith
total_add f g (x ∷ xs) = let t = total_add f g xs in omega arith

pub total_scaled : {A : Type 0} (a : ℕ) (f : A → ℕ) (xs : List A) → total (λ x. a * f x) xs ≡ a * total f xs
total_scaled a f [] = sym (mul-zero a)
total_scaled a f (x ∷ xs) = let t = total_scaled a f xs in let h = mul-add a (f x) (total f xs) in omega arith

pub total_swap : {A B : Type 0} (h : A → B → ℕ) (xs : List A) (ys : List B) → total (λ x. total (λ y. h x y) ys) xs ≡ total (λ y. total (λ x. h x y) xs) ys
total_swap h [] ys = sym (total_zero ys)
total_swap h (x ∷ xs) ys =
    let t = total_swap h xs ys in
    let s = total_add (λ y. h x y) (λ y. total (λ x. h x y) xs) ys in omega arith

pub all_also : {A : Type 0} {P Q : A → Type 0} → ((x : A) → P x → Q x) → (xs : List A) → AllByRecursion P xs → AllByRecursion Q xs
all_also f [] h = tt
all_also f (x ∷ xs) h = (f x h.0, all_also f xs h.1)

pub all_of : {A B : Type 0} (P : B → Type 0) (f : A → B) (xs : List A) → AllByRecursion (λ x. P (f x)) xs → AllByRecursion P (map f xs)
all_of P f [] h = tt
all_of P f (x ∷ xs) h = (h.0, all_of P f xs h.1)

pub total_most : {A : Type 0} (f : A → ℕ) (b : ℕ) (xs : List A) → AllByRecursion (λ x. f x ≤ b) xs → total f xs ≤ b * length xs
total_most f b [] h = omega arith
total_most f b (x ∷ xs) h =
    let r = total_most f b xs h.1 in let p = h.0 in
    let e : b * suc (length xs) ≡ b * length xs + b = mul-suc b (length xs) in omega arith

pub take_front : {A : Type 0} (xs ys : List A) → take (length xs) (xs ++ ys) ≡ xs
take_front [] ys = refl
take_front (x ∷ xs) ys = ap (λ zs. x ∷ zs) (take_front xs ys)

pub all_append : {A : Type 0} (P : A → Type 0) (xs ys : List A) → AllByRecursion P xs → AllByRecursion P ys → AllByRecursion P (xs ++ ys)
all_append P [] ys h k = k
all_append P (x ∷ xs) ys h k = (h.0, all_append P xs ys h.1 k)

pub all_flat_map : {A B : Type 0} (P : B → Type 0) (f : A → List B) (xs : List A) → AllByRecursion (λ x. AllByRecursion P (f x)) xs → AllByRecursion P (flat_map f xs)
all_flat_map P f [] h = tt
all_flat_map P f (x ∷ xs) h = all_append P (f x) (flat_map f xs) h.0 (all_flat_map P f xs h.1)

-- no part of a total exceeds it
pub parts_most : {A : Type 0} (f : A → ℕ) (b : ℕ) (xs : List A) → total f xs ≤ b → AllByRecursion (λ x. f x ≤ b) xs
parts_most f b [] h = tt
parts_most f b (x ∷ xs) h = (omega arith, parts_most f b xs (omega arith))
