use Rattle.host_laws.proofs.Fetches.{failed_fetches_are_paid_for}
use Rattle.host_laws.proofs.promises.failed_fetches_are_paid_for.Goals as goal

pub returns : goal.returns
returns c = failed_fetches_are_paid_for
