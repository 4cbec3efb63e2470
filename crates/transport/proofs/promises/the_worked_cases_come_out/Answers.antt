use Rattle.transport.proofs.Worked.{the_worked_cases_come_out}
use Rattle.transport.proofs.promises.the_worked_cases_come_out.Goals as goal

pub returns : goal.returns
returns c = the_worked_cases_come_out
