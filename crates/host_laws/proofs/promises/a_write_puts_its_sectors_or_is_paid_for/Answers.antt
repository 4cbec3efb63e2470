use Rattle.host_laws.proofs.Writes.{a_write_puts_its_sectors_or_is_paid_for}
use Rattle.host_laws.proofs.promises.a_write_puts_its_sectors_or_is_paid_for.Goals as goal

pub returns : goal.returns
returns c = a_write_puts_its_sectors_or_is_paid_for
