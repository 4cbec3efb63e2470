use Rattle.transport.proofs.CapacityRoundTrip.{reading_a_built_capacity_returns_the_size}
use Rattle.transport.proofs.promises.reading_a_built_capacity_returns_the_size.Goals as goal

pub returns : goal.returns
returns c = reading_a_built_capacity_returns_the_size
