use Rattle.transport.proofs.CommandRoundTrip.{reading_a_built_command_returns_it}
use Rattle.transport.proofs.promises.reading_a_built_command_returns_it.Goals as goal

pub returns : goal.returns
returns c = reading_a_built_command_returns_it
