use Rattle.host_laws.proofs.Recovering.{recovering_puts_the_ends_in_step}
use Rattle.host_laws.proofs.promises.recovering_puts_the_ends_in_step.Goals as goal

pub returns : goal.returns
returns c = recovering_puts_the_ends_in_step
