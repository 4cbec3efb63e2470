use Rattle.transport.proofs.CommandRoundTrip.{every_command_fits_a_block}
use Rattle.transport.proofs.promises.every_command_fits_a_block.Goals as goal

pub returns : goal.returns
returns c = every_command_fits_a_block
