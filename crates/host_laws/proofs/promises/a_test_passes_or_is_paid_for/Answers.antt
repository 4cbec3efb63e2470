use Rattle.host_laws.proofs.Tests.{a_test_passes_or_is_paid_for}
use Rattle.host_laws.proofs.promises.a_test_passes_or_is_paid_for.Goals as goal

pub returns : goal.returns
returns c = a_test_passes_or_is_paid_for
