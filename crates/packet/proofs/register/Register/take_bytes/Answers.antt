use Rattle.std.proofs.Common.{◌≡◌, ℕ, ◌+◌, ◌<◌, ◌≤◌, List, length, get_or, drop, sym, ◌∙◌}
use Rattle.std.proofs.lemmas.List.{at_drop_more, at_drop_all}
use Rattle.packet.specs.Bits.{bits, bits_of}
use Rattle.packet.specs.Registers.{fed}
use Rattle.packet.proofs.Feeding.{fed_append}
use Rattle.packet.proofs.register.Register.take_bytes.Goals as goal

module _ (w g content : ℕ) (bytes : List ℕ) (i : ℕ) where
  left : List ℕ → ℕ
  left bs = fed w g content (bits_of bs)

  one_more : i < length bytes → fed w g (fed w g content (bits 8 (get_or bytes i 0))) (bits_of (drop (i + 1) bytes)) ≡ fed w g content (bits_of (drop i bytes))
  unfolding left bits_of
  one_more h = sym (at_drop_more left bytes i 0 h ∙ fed_append w g content (bits 8 (get_or bytes i 0)) (bits_of (drop (i + 1) bytes)))

  none_left : length bytes ≤ i → fed w g content (bits_of (drop i bytes)) ≡ content
  unfolding left bits_of fed
  none_left h = at_drop_all left bytes i h

pub loop-byte-preserved : goal.loop-byte-preserved
loop-byte-preserved g c = rw c.take_low_bits.ensures (one_more _ _ _ _ _ c.loop-byte-test.true ∙ c.loop-byte.invariant)

pub returns : goal.returns
returns g c = sym (none_left _ _ _ _ _ c.loop-byte-test.false) ∙ c.loop-byte.invariant
