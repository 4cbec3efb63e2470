use Rattle.packet.proofs.RoundTrip.{reading_a_built_packet_returns_its_parts}
use Rattle.packet.proofs.promises.reading_a_built_packet_returns_its_parts.Goals as goal

pub returns : goal.returns
returns c = reading_a_built_packet_returns_its_parts
