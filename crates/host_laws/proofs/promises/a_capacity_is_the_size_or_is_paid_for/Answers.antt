use Rattle.host_laws.proofs.Capacities.{a_capacity_is_the_size_or_is_paid_for}
use Rattle.host_laws.proofs.promises.a_capacity_is_the_size_or_is_paid_for.Goals as goal

pub returns : goal.returns
returns c = a_capacity_is_the_size_or_is_paid_for
