-- Bits in the opposite order.
use Rattle.std.proofs.Common.{◌≡◌, ℕ, zero, suc, ◌+◌, ◌-◌, ◌*◌, ◌/◌, ◌%◌, ◌^◌, ◌<◌, ◌≤◌, ap, sym, ◌∙◌, pow-suc, suc-add, zero-add, mul_assoc, arith, pow_pos}
use lib.Arith.{digits_lt}
use Rattle.std.proofs.Math.Nat.{mul-add-div_right, div-eq_of_lt}
use Rattle.std.proofs.lemmas.Nat.{pow-add}
use Rattle.std.specs.Int.{reverse_bits_onto}
use Rattle.packet.specs.Registers.{mirrored}

pub mirrored_below : (k n : ℕ) → mirrored k n < 2 ^ k
unfolding mirrored
mirrored_below zero n = omega arith
mirrored_below (suc k) n =
    let low : n % 2 < 2 = omega arith in
    rw pow-suc (omega (arith, digits_lt {m = 2} low (mirrored_below k (n / 2))))

-- the front of more bits that are mirrored
mirrored_front : (k j n : ℕ) → mirrored (k + j) n / 2 ^ j ≡ mirrored k n
unfolding mirrored
mirrored_front zero j n = rw zero-add (div-eq_of_lt (mirrored_below j n))
mirrored_front (suc k) j n =
    rw (suc-add, pow-add, sym (mul_assoc (n % 2) (2 ^ k) (2 ^ j)))
    (mul-add-div_right (pow_pos j) (n % 2 * 2 ^ k) (mirrored (k + j) (n / 2)) ∙ ap (λ m. n % 2 * 2 ^ k + m) (mirrored_front k j (n / 2)))

reversed_onto : (k n a : ℕ) → reverse_bits_onto k n a ≡ a * 2 ^ k + mirrored k n
unfolding mirrored reverse_bits_onto
reversed_onto zero n a = omega arith
reversed_onto (suc k) n a = reversed_onto k (n / 2) (a * 2 + n % 2) ∙ rw pow-suc (omega arith)

-- the lowest bits of a number in the opposite order are the highest of all its bits in the opposite order
pub mirrored_of_reversed : (k n : ℕ) → k ≤ 16 → reverse_bits_onto 16 n 0 / 2 ^ (16 - k) ≡ mirrored k n
mirrored_of_reversed k n h =
    let whole : 16 ≡ k + (16 - k) = omega arith in
    let all : reverse_bits_onto 16 n 0 ≡ mirrored 16 n = omega (arith, reversed_onto 16 n 0) in
    ap (λ m. m / 2 ^ (16 - k)) (all ∙ ap (λ i. mirrored i n) whole) ∙ mirrored_front k (16 - k) n
