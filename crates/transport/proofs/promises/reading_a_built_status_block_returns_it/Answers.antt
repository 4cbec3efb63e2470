use Rattle.transport.proofs.StatusRoundTrip.{reading_a_built_status_block_returns_it}
use Rattle.transport.proofs.promises.reading_a_built_status_block_returns_it.Goals as goal

pub returns : goal.returns
returns c = reading_a_built_status_block_returns_it
