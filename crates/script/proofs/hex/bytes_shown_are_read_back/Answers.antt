use Rattle.script.proofs.ReadBack.{read_back}
use Rattle.script.proofs.hex.bytes_shown_are_read_back.Goals as goal

pub returns : goal.returns
returns c = read_back
