use Rattle.std.proofs.Common.{◌≡◌, ℕ, suc, ◌+◌, ◌-◌, ◌/◌, ◌<◌, ◌≤◌, sym, ap, ◌∙◌, arith}
use Rattle.packet.specs.Bits.{bits, odd}
use Rattle.packet.specs.Registers.{fed, taken}
use Rattle.packet.proofs.register.Register.take_low_bits.Goals as goal

module _ (w g content n i rest : ℕ) where
  one_more : i < n → fed w g (taken w g content (odd rest)) (bits (n - (i + 1)) (rest / 2)) ≡ fed w g content (bits (n - i) rest)
  unfolding fed bits
  one_more h =
      let left : n - i ≡ suc (n - (i + 1)) = omega arith in
      sym (ap (λ k. fed w g content (bits k rest)) left)

  none_left : n ≤ i → fed w g content (bits (n - i) rest) ≡ content
  unfolding fed bits
  none_left h =
      let left : n - i ≡ 0 = omega arith in
      ap (λ k. fed w g content (bits k rest)) left

pub loop-i-preserved : goal.loop-i-preserved
loop-i-preserved g c = rw c.take_bit.ensures (one_more _ _ _ _ _ _ c.loop-i-test.true ∙ c.loop-i.invariant)

pub returns : goal.returns
returns g c = sym (none_left _ _ _ _ _ _ c.loop-i-test.false) ∙ c.loop-i.invariant
