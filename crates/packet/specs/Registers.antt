-- Check registers: how a bit is taken, and the check that is left at the end.
use Rattle.std.specs.Prelude.{ℕ, zero, suc, ◌+◌, ◌-◌, ◌*◌, ◌/◌, ◌%◌, ◌^◌, Bool, true, false, cond, not, List, [], ◌∷◌, bit_xor}
use Rattle.packet.specs.Bits.{odd}

abbrev pub differs : Bool → Bool → Bool
differs true b = not b
differs false b = b

-- the top bit of a content of this width
abbrev pub top : ℕ → ℕ → Bool
top width content = odd (content / 2 ^ (width - 1))

-- the content moved up one place, its top bit dropped
abbrev pub moved_up : ℕ → ℕ → ℕ
moved_up width content = content * 2 % 2 ^ width

-- one bit taken: the content moves up, and the generator is XORed in if the bit dropped differs from the bit taken
unfoldable pub taken : (width generator : ℕ) → ℕ → Bool → ℕ
taken width generator content b = cond (differs (top width content) b) (bit_xor (moved_up width content) generator) (moved_up width content)

-- bits taken in turn
unfoldable pub fed : (width generator : ℕ) → ℕ → List Bool → ℕ
fed width generator content [] = content
fed width generator content (b ∷ bs) = fed width generator (taken width generator content b) bs

-- the lowest so many bits of a number in the opposite order
unfoldable pub mirrored : ℕ → ℕ → ℕ
mirrored zero n = 0
mirrored (suc k) n = n % 2 * 2 ^ k + mirrored k (n / 2)

-- a register starts as all ones
abbrev pub all_ones : ℕ → ℕ
all_ones width = 2 ^ width - 1

-- at the end the content is complemented, and its top bit goes into the check field's lowest bit
abbrev pub finished : ℕ → ℕ → ℕ
finished width content = mirrored width (bit_xor content (all_ones width))

-- the check of bits
abbrev pub check : (width generator : ℕ) → List Bool → ℕ
check width generator bs = finished width (fed width generator (all_ones width) bs)
