use Rattle.std.proofs.Common.{◌≡◌, ℕ, min, drop}
use Rattle.script.specs.Numbers.{number_after, number_read}
use Rattle.script.proofs.number.read_number.Given as goal

-- the digits so far write some n, of which the code holds what the limit leaves
abbrev pub invariant-loop-digit : goal.invariant-loop-digit
invariant-loop-digit l = (n : ℕ) × (l.number ≡ min n l.limit) × (number_after l.limit n (drop l.digit-index l.word) ≡ number_read l.limit l.word)
