use Rattle.transport.proofs.BlockRoundTrip.{only_built_command_blocks_are_accepted}
use Rattle.transport.proofs.promises.only_built_command_blocks_are_accepted.Goals as goal

pub returns : goal.returns
returns c = only_built_command_blocks_are_accepted
