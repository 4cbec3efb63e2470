-- Bits fed one after another.
use Rattle.std.proofs.Common.{◌≡◌, ℕ, Bool, List, [], ◌∷◌, ◌++◌, refl}
use Rattle.packet.specs.Registers.{fed, taken}

pub fed_append : (w g content : ℕ) (xs ys : List Bool) → fed w g content (xs ++ ys) ≡ fed w g (fed w g content xs) ys
unfolding fed
fed_append w g content [] ys = refl
fed_append w g content (x ∷ xs) ys = fed_append w g (taken w g content x) xs ys
