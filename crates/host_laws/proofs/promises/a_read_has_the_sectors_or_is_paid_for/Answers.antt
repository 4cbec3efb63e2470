use Rattle.host_laws.proofs.SectorReads.{a_read_has_the_sectors_or_is_paid_for}
use Rattle.host_laws.proofs.promises.a_read_has_the_sectors_or_is_paid_for.Goals as goal

pub returns : goal.returns
returns c = a_read_has_the_sectors_or_is_paid_for
