use Rattle.std.proofs.Common.{◌≡◌, ◌+◌, ◌^◌, ◌≤◌, drop}
use Rattle.requests.specs.Words.{read_on}
use Rattle.requests.proofs.number.number_in.Given as goal

abbrev pub invariant-loop-byte : goal.invariant-loop-byte
invariant-loop-byte l = (l.value + 1 ≤ 10 ^ l.byte-index) × (read_on l.value (drop l.byte-index l.word) ≡ read_on 0 l.word)
