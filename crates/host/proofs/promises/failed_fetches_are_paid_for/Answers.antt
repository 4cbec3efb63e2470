use Rattle.host.proofs.Fetches.{failed_fetches_are_paid_for}
use Rattle.host.proofs.promises.failed_fetches_are_paid_for.Goals as goal

pub returns : goal.returns
returns c = failed_fetches_are_paid_for
