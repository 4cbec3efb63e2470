use Rattle.host_laws.proofs.Transfers.{a_control_transfer_is_done_or_paid_for}
use Rattle.host_laws.proofs.promises.a_control_transfer_is_done_or_paid_for.Goals as goal

pub returns : goal.returns
returns c = a_control_transfer_is_done_or_paid_for
