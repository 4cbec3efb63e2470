-- A flipped bit, in the memory and in what was sent.
use Rattle.std.proofs.Common.{◌≡◌, ℕ, ◌-◌, ◌*◌, ◌/◌, ◌%◌, ◌^◌, ◌<◌, List, ◌++◌, length, get_or, take, set, replicate, sym, ap, ◌∙◌, arith, length-set, pow_pos}
use lib.Bits.{bit_xor, xor_assoc, xor_self}
use Rattle.std.proofs.lemmas.Nat.{mod_below, one_shl}
use Rattle.std.proofs.lemmas.List.{set-append_left, get_or_append_left, get_or-set_same, take_at}
use Rattle.wire.specs.Carrying.{laid}
use Rattle.wire.specs.Scripts.{with_bit_flipped}

module _ (bit : ℕ) (sent : List ℕ) (some : 0 < length sent) where
  bit_within : bit % (8 * length sent) < 8 * length sent
  bit_within = mod_below bit (8 * length sent) (omega arith)

  pub byte_within : bit % (8 * length sent) / 8 < length sent
  byte_within = omega (arith, bit_within)

  pub length_flipped : length (with_bit_flipped bit sent) ≡ length sent
  length_flipped = length-set sent _ _

  pub flipped_in_memory : set (laid sent) (bit % (8 * length sent) / 8) (bit_xor (get_or (laid sent) (bit % (8 * length sent) / 8) 0) (1 * 2 ^ (bit % (8 * length sent) % 8) % 256)) ≡ laid (with_bit_flipped bit sent)
  flipped_in_memory =
      let within = byte_within in
      let i = bit % (8 * length sent) / 8 in
      let k = bit % (8 * length sent) % 8 in
      let one : 1 * 2 ^ k % 256 ≡ 2 ^ k = one_shl k 8 (omega arith) in
      let read : get_or (laid sent) i 0 ≡ get_or sent i 0 = get_or_append_left sent _ 0 i within in
      rw (one, read) (set-append_left sent (replicate (67 - length sent) 0) i (bit_xor (get_or sent i 0) (2 ^ k)) within ∙ ap (λ n. with_bit_flipped bit sent ++ replicate (67 - n) 0) (sym length_flipped))

  pub flipped_in_front : take (length sent) (laid (with_bit_flipped bit sent)) ≡ with_bit_flipped bit sent
  flipped_in_front = take_at (with_bit_flipped bit sent) _ (length sent) length_flipped

  -- a flipped bit is another bit
  pub flipped_differs : with_bit_flipped bit sent ≡ sent → ⊥
  flipped_differs same =
      let i = bit % (8 * length sent) / 8 in
      let k = bit % (8 * length sent) % 8 in
      let b = get_or sent i 0 in
      let here : bit_xor b (2 ^ k) ≡ b = sym (get_or-set_same sent i (bit_xor b (2 ^ k)) 0 byte_within) ∙ ap (λ l. get_or l i 0) same in
      let none : 2 ^ k ≡ 0 = ap (λ z. bit_xor z (2 ^ k)) (sym (xor_self b)) ∙ xor_assoc b b (2 ^ k) ∙ ap (bit_xor b) here ∙ xor_self b in
      absurd (omega (arith, pow_pos k))
