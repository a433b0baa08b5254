-- Looking an operator up on a roll.
use Rattle.std.proofs.Common.{◌≡◌, ℕ, Bool, true, false, cond, eqb, List, [], ◌∷◌, Some, refl, find}
use Rattle.std.specs.Option.{option_map}
use Rattle.book.specs.Members.{rate_of, member, member_of, members_of}
use Rattle.book.specs.declared.entries.RollEntry.{RollEntry}

-- the rate of the entry that is found is that of the member
pub rate_found : (operator : ℕ) (roll : List RollEntry) →
    option_map (λ e. rate_of e.tranches) (find (λ e. eqb e.operator operator) roll) ≡ option_map (λ x. rate_of x.tranches) (member operator (members_of roll))
rate_found operator [] = refl
rate_found operator (e ∷ es) = go (eqb e.operator operator) (rate_found operator es)
  where
    go : (b : Bool) → option_map (λ x. rate_of x.tranches) (find (λ x. eqb x.operator operator) es) ≡ option_map (λ x. rate_of x.tranches) (member operator (members_of es)) →
        option_map (λ x. rate_of x.tranches) (cond b (Some e) (find (λ x. eqb x.operator operator) es)) ≡ option_map (λ x. rate_of x.tranches) (cond b (Some (member_of e)) (member operator (members_of es)))
    go true r = refl
    go false r = r
