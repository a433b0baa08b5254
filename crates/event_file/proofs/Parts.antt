-- A part of a list, among all parts of its size.
use Rattle.std.proofs.Common.{◌≡◌, ℕ, zero, suc, ◌+◌, ◌*◌, ◌<◌, List, [], drop, take, slice_index_or, ap, ◌∙◌, arith}
use Rattle.std.proofs.Math.Nat.{suc-mul}
use Rattle.std.proofs.lemmas.List.{drop-drop}
use Rattle.std.specs.Simd.{first_chunks}
use Rattle.event_file.specs.Blocks.{part_of}

pub chunk_at : (n k i : ℕ) (xs : List ℕ) → i < k → slice_index_or (first_chunks n k xs) i [] ≡ part_of n xs i
chunk_at n zero i xs h = absurd (omega arith)
chunk_at n (suc k) zero xs h =
    let first : 0 ≡ 0 * n = omega arith in
    ap (λ j. take n (drop j xs)) first
chunk_at n (suc k) (suc i) xs h =
    let next : n + i * n ≡ suc i * n = omega (arith, suc-mul i n) in
    chunk_at n k i (drop n xs) (omega arith) ∙ ap (take n) (drop-drop (i * n) n xs) ∙ ap (λ j. take n (drop j xs)) next
