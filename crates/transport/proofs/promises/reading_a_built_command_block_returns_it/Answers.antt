use Rattle.transport.proofs.BlockRoundTrip.{reading_a_built_command_block_returns_it}
use Rattle.transport.proofs.promises.reading_a_built_command_block_returns_it.Goals as goal

pub returns : goal.returns
returns c = reading_a_built_command_block_returns_it
