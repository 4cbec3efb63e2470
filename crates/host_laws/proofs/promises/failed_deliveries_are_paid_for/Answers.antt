use Rattle.host_laws.proofs.Deliveries.{failed_deliveries_are_paid_for}
use Rattle.host_laws.proofs.promises.failed_deliveries_are_paid_for.Goals as goal

pub returns : goal.returns
returns c = failed_deliveries_are_paid_for
