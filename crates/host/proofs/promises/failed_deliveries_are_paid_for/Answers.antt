use Rattle.host.proofs.Deliveries.{failed_deliveries_are_paid_for}
use Rattle.host.proofs.promises.failed_deliveries_are_paid_for.Goals as goal

pub returns : goal.returns
returns c = failed_deliveries_are_paid_for
