-- Numbers and bytes as bits, the lowest first, as they go over the bus.
use Rattle.std.specs.Prelude.{ℕ, zero, suc, ◌/◌, ◌%◌, Bool, List, [], ◌∷◌, ◌++◌, ◌==◌}

abbrev pub odd : ℕ → Bool
odd n = n % 2 == 1

-- the lowest so many bits of a number, the lowest first
unfoldable pub bits : ℕ → ℕ → List Bool
bits zero n = []
bits (suc k) n = odd n ∷ bits k (n / 2)

-- the bits of bytes: byte by byte, the low bit of each first
unfoldable pub bits_of : List ℕ → List Bool
bits_of [] = []
bits_of (b ∷ bs) = bits 8 b ++ bits_of bs
