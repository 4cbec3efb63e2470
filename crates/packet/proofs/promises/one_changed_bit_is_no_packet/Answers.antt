use Rattle.packet.proofs.NoPacket.{one_changed_bit_is_no_packet}
use Rattle.packet.proofs.promises.one_changed_bit_is_no_packet.Goals as goal

pub returns : goal.returns
returns c = one_changed_bit_is_no_packet
