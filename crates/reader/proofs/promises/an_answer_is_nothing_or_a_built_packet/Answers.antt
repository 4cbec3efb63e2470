use Rattle.reader.proofs.Heard.{an_answer_is_nothing_or_a_built_packet}
use Rattle.reader.proofs.promises.an_answer_is_nothing_or_a_built_packet.Goals as goal

pub returns : goal.returns
returns c = an_answer_is_nothing_or_a_built_packet
