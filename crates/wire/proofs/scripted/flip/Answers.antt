use Rattle.std.proofs.Common.{◌≡◌, ℕ, ◌*◌, ◌/◌, ◌%◌, ◌^◌, ◌<◌, Bool, List, [], length, get_or, take, set, sym, ap, ◌∙◌}
use lib.Bits.{bit_xor}
use Rattle.packet.specs.Reading.{reading}
use Rattle.std.proofs.lemmas.Bool.{cond-true, cond-false}
use Rattle.wire.specs.Carrying.{laid}
use Rattle.wire.specs.Scripts.{is_packet, with_bit_flipped, unless_packet}
use Rattle.wire.proofs.Flipping.{flipped_in_memory, flipped_in_front, length_flipped}
use Rattle.wire.proofs.scripted.flip.Goals as goal

module _ (bit from count : ℕ) (sent memory : List ℕ) (some : 0 < length sent) (f : from ≡ bit) (n : count ≡ length sent) (m : memory ≡ laid sent) where
  turned : List ℕ
  turned = set memory (from % (8 * count) / 8) (bit_xor (get_or memory (from % (8 * count) / 8) 0) (1 * 2 ^ (from % (8 * count) % 8) % 256))

  turned_is : turned ≡ laid (with_bit_flipped bit sent)
  unfolding turned
  turned_is = rw (f, n, m) (flipped_in_memory bit sent some)

  -- the test is made on the flipped bytes
  tested : (t : Bool) → t ≡ is_packet (reading (take count turned)) → is_packet (reading (with_bit_flipped bit sent)) ≡ t
  tested t e = sym (e ∙ ap (λ l. is_packet (reading l)) (rw turned_is (ap (λ k. take k (laid (with_bit_flipped bit sent))) n ∙ flipped_in_front bit sent some)))

pub returns-then-reads_as_packet : goal.returns-then-reads_as_packet
unfolding turned
returns-then-reads_as_packet c =
    let gone : [] ≡ unless_packet (with_bit_flipped c.args.bit c.args.sent.now) =
    sym (cond-true _ _ _ (tested _ _ _ _ _ c.requires.0 c.from.ensures c.lay-count.ensures.count c.lay-count.ensures.memory _ c.if-reads_as_packet.ensures)) in
    record { count = c.lay.ensures.count ∙ ap length gone; memory = c.lay.ensures.memory ∙ ap laid gone }

pub returns : goal.returns
unfolding turned
returns c =
    let left : with_bit_flipped c.args.bit c.args.sent.now ≡ unless_packet (with_bit_flipped c.args.bit c.args.sent.now) =
    sym (cond-false _ _ _ (tested _ _ _ _ _ c.requires.0 c.from.ensures c.lay-count.ensures.count c.lay-count.ensures.memory _ c.if-reads_as_packet.ensures)) in
    record {
      count = c.lay-count.ensures.count ∙ sym (length_flipped c.args.bit c.args.sent.now c.requires.0) ∙ ap length left;
      memory = turned_is _ _ _ _ _ c.requires.0 c.from.ensures c.lay-count.ensures.count c.lay-count.ensures.memory ∙ ap laid left;
    }
