use Rattle.reader.proofs.Tasks.{a_status_answers_its_command}
use Rattle.reader.proofs.promises.a_status_answers_its_command.Goals as goal

pub returns : goal.returns
returns c = a_status_answers_its_command
