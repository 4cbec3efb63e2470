use Rattle.packet.proofs.RoundTrip.{only_built_packets_are_accepted}
use Rattle.packet.proofs.promises.only_built_packets_are_accepted.Goals as goal

pub returns : goal.returns
returns c = only_built_packets_are_accepted
