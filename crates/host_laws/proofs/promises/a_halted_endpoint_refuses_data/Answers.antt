use Rattle.host_laws.proofs.Deliveries.{a_halted_endpoint_refuses_data}
use Rattle.host_laws.proofs.promises.a_halted_endpoint_refuses_data.Goals as goal

pub returns : goal.returns
returns c = a_halted_endpoint_refuses_data
