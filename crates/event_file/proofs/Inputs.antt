-- What is read of an input up to a limit.
use Rattle.std.proofs.Common.{◌≡◌, ℕ, List, [], ◌++◌, Some, None, Option, IfSome, take, ap, ◌∙◌}
use Rattle.std.specs.Option.{option_map}

-- What is read until an input ends, up to a limit, is the first part of all that it gives.
pub read_to_limit : (limit most : ℕ) (given : Option (List ℕ)) (before read : List ℕ) → limit ≡ most → before ≡ [] → IfSome (option_map (take limit) given) (λ xs. read ≡ before ++ xs) → IfSome given (λ xs. read ≡ take most xs)
read_to_limit limit most None before read same empty is = is
read_to_limit limit most (Some xs) before read same empty is = is ∙ ap (λ b. b ++ take limit xs) empty ∙ ap (λ n. take n xs) same
