use Rattle.host_laws.proofs.Blocks.{a_block_is_taken_or_is_paid_for}
use Rattle.host_laws.proofs.promises.a_block_is_taken_or_is_paid_for.Goals as goal

pub returns : goal.returns
returns c = a_block_is_taken_or_is_paid_for
