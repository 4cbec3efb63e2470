use Rattle.packet.proofs.Numbers.{a_refusal_is_20_to_24}
use Rattle.packet.proofs.promises.a_refusal_is_20_to_24.Goals as goal

pub returns : goal.returns
returns c = a_refusal_is_20_to_24
