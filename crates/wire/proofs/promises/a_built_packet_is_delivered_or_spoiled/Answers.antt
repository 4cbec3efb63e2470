use Rattle.wire.proofs.Choice.{a_built_packet_is_delivered_or_spoiled}
use Rattle.wire.proofs.promises.a_built_packet_is_delivered_or_spoiled.Goals as goal

pub returns : goal.returns
returns c = a_built_packet_is_delivered_or_spoiled
