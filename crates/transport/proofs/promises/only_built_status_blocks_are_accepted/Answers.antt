use Rattle.transport.proofs.StatusRoundTrip.{only-built-status-blocks-are-accepted}
use Rattle.transport.proofs.promises.only_built_status_blocks_are_accepted.Goals as goal

pub returns : goal.returns
returns c = only-built-status-blocks-are-accepted
