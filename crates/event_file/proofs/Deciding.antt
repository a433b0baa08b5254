-- The three conditions of an entry in their order, and what their answer says of each.
use Rattle.std.proofs.Common.{◌≡◌, ℕ, Bool, true, false, [], ◌∷◌, Ok, Result, refl, arith}
use Rattle.refusal.specs.declared.Refusal.{Refusal}
use Rattle.refusal.specs.declared.Refusal.TheVariants.{UnknownLetter, BlankRuleBroken, BadEntryContent}
use Rattle.refusal.specs.Checks.{first, unless, ◌⇒◌}
use Rattle.event_file.specs.Entries.{Told}

abbrev pub decide : Bool → Bool → Bool → Told → Result Told Refusal
decide u b k t = unless (first ((u ⇒ UnknownLetter) ∷ (b ⇒ BlankRuleBroken) ∷ (k ⇒ BadEntryContent) ∷ [])) t

pub record AllPassed (u b k : Bool) (t s : Told) : Type 0 where
  pub letter_known : u ≡ false
  pub rule_kept : b ≡ false
  pub content_good : k ≡ false
  pub same_told : t ≡ s

pub passed_all : (u b k : Bool) (t s : Told) → decide u b k t ≡ Ok s → AllPassed u b k t s
passed_all true b k t s e = let z : ◌≡◌ {A = ℕ} 0 1 = cc in absurd (omega arith)
passed_all false true k t s e = let z : ◌≡◌ {A = ℕ} 0 1 = cc in absurd (omega arith)
passed_all false false true t s e = let z : ◌≡◌ {A = ℕ} 0 1 = cc in absurd (omega arith)
passed_all false false false t s e = record { letter_known = refl; rule_kept = refl; content_good = refl; same_told = cc }
