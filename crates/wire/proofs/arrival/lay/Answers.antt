use Rattle.std.proofs.Common.{◌≡◌, ℕ, List, ◌++◌, length, drop, replicate, ap}
use Rattle.std.proofs.lemmas.List.{drop-replicate}
use Rattle.wire.specs.Carrying.{laid}
use Rattle.wire.proofs.arrival.lay.Goals as goal

filled : (bytes copied : List ℕ) → copied ≡ bytes → copied ++ drop (length bytes) (replicate 67 0) ≡ laid bytes
filled bytes copied same = rw same (ap (λ l. bytes ++ l) (drop-replicate (length bytes) 67 0))

pub returns-clause-memory : goal.returns-clause-memory
returns-clause-memory c = filled _ _ c.copy_from_slice.ensures.after
