-- Reading a built capacity reply returns the size.
use Rattle.std.proofs.Common.{◌≡◌, ◌+◌, ◌-◌, Some, ap, ◌∙◌, arith}
use Rattle.std.proofs.lemmas.Bool.{le-leb, cond-true}
use Rattle.transport.specs.Capacity.{capacity_bytes, capacity_of}
use Rattle.transport.specs.Numbers.{high_first, high_first_at}
use Rattle.transport.specs.Promises.{ReadingABuiltCapacityReturnsTheSize}
use Rattle.transport.proofs.Bytes.{high_first_back}

pub reading_a_built_capacity_returns_the_size : ReadingABuiltCapacityReturnsTheSize
unfolding capacity_bytes capacity_of
reading_a_built_capacity_returns_the_size n some most =
    let last : high_first_at (high_first (n - 1)) 0 ≡ n - 1 = high_first_back (n - 1) (omega arith) in
    let size : high_first_at (high_first (n - 1)) 0 + 1 ≡ n = omega (arith, last) in
    cond-true _ _ _ (le-leb (high_first_at (high_first (n - 1)) 0) 65535 (omega (arith, last))) ∙ ap Some size
