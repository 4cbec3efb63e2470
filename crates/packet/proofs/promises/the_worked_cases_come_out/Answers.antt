use Rattle.packet.proofs.Worked.{the-worked-cases-come-out}
use Rattle.packet.proofs.promises.the_worked_cases_come_out.Goals as goal

pub returns : goal.returns
returns c = the-worked-cases-come-out
