-- The worked cases, computed.
use Rattle.std.proofs.Common.{refl}
use Rattle.transport.specs.Blocks.{block_bytes, block_read}
use Rattle.transport.specs.Capacity.{capacity_bytes}
use Rattle.transport.specs.Commands.{command_bytes}
use Rattle.transport.specs.Promises.{TheWorkedCasesComeOut}
use Rattle.transport.specs.Statuses.{status_bytes, status_read}

pub the_worked_cases_come_out : TheWorkedCasesComeOut
unfolding block_bytes block_read capacity_bytes command_bytes status_bytes status_read
the_worked_cases_come_out = refl
