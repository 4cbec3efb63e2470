-- A word's two bytes, the low one first.
use Rattle.std.proofs.Common.{◌≡◌, ℕ, ◌/◌, ◌%◌, ◌<◌, refl, arith}
use Rattle.std.specs.Int.{w16, to_le_bytes}
use Rattle.packet.specs.Building.{word_bytes}

pub le_bytes_of_word : (w : ℕ) → w < 65536 → to_le_bytes w16 w ≡ word_bytes w
le_bytes_of_word w h =
    let high : w / 256 % 256 ≡ w / 256 = omega arith in
    rw high refl
