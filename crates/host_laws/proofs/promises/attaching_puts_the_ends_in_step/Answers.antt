use Rattle.host_laws.proofs.Attaching.{attaching_puts_the_ends_in_step}
use Rattle.host_laws.proofs.promises.attaching_puts_the_ends_in_step.Goals as goal

pub returns : goal.returns
returns c = attaching_puts_the_ends_in_step
