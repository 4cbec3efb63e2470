-- Numbers as bytes: low byte first in blocks, high byte first in commands and in the capacity reply.
use Rattle.std.specs.Prelude.{ℕ, zero, suc, ◌+◌, ◌*◌, ◌/◌, ◌%◌, List, [], ◌∷◌, slice_index}

-- four bytes, the low one first
abbrev pub low_first : ℕ → List ℕ
low_first n = n % 256 ∷ n / 256 % 256 ∷ n / 65536 % 256 ∷ n / 16777216 % 256 ∷ []

-- four bytes, the high one first
abbrev pub high_first : ℕ → List ℕ
high_first n = n / 16777216 % 256 ∷ n / 65536 % 256 ∷ n / 256 % 256 ∷ n % 256 ∷ []

-- two bytes, the high one first
abbrev pub two_high_first : ℕ → List ℕ
two_high_first n = n / 256 % 256 ∷ n % 256 ∷ []

-- the number in the bytes from a place on
abbrev pub low_first_at : List ℕ → ℕ → ℕ
low_first_at bs i = slice_index bs i + slice_index bs (i + 1) * 256 + slice_index bs (i + 2) * 65536 + slice_index bs (i + 3) * 16777216

abbrev pub high_first_at : List ℕ → ℕ → ℕ
high_first_at bs i = slice_index bs i * 16777216 + slice_index bs (i + 1) * 65536 + slice_index bs (i + 2) * 256 + slice_index bs (i + 3)

abbrev pub two_high_first_at : List ℕ → ℕ → ℕ
two_high_first_at bs i = slice_index bs i * 256 + slice_index bs (i + 1)

-- so many bytes, from a place on
abbrev pub field_at : ℕ → ℕ → List ℕ → List ℕ
field_at zero i bs = []
field_at (suc n) i bs = slice_index bs i ∷ field_at n (i + 1) bs
