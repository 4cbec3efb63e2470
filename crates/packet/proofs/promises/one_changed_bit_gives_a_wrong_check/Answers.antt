use Rattle.packet.proofs.WrongCheck.{one_changed_bit_gives_a_wrong_check}
use Rattle.packet.proofs.promises.one_changed_bit_gives_a_wrong_check.Goals as goal

pub returns : goal.returns
returns g c = one_changed_bit_gives_a_wrong_check _ _ g.R.Check.sized g.R.Check.lawful
