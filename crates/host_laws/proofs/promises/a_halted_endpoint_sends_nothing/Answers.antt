use Rattle.host_laws.proofs.Fetches.{a_halted_endpoint_sends_nothing}
use Rattle.host_laws.proofs.promises.a_halted_endpoint_sends_nothing.Goals as goal

pub returns : goal.returns
returns c = a_halted_endpoint_sends_nothing
