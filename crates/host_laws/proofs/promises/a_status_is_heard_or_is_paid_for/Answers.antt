use Rattle.host_laws.proofs.Statuses.{a_status_is_heard_or_is_paid_for}
use Rattle.host_laws.proofs.promises.a_status_is_heard_or_is_paid_for.Goals as goal

pub returns : goal.returns
returns c = a_status_is_heard_or_is_paid_for
