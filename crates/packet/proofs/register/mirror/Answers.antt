use Rattle.packet.proofs.Mirrored.{mirrored_below, mirrored_of_reversed}
use Rattle.packet.proofs.register.mirror.Goals as goal

pub returns-clause-mirror : goal.returns-clause-mirror
returns-clause-mirror c = rw c.reverse_bits.ensures (mirrored_of_reversed _ _ c.requires.1)

pub returns-clause-width : goal.returns-clause-width
returns-clause-width c = rw (c.reverse_bits.ensures, mirrored_of_reversed _ _ c.requires.1) (mirrored_below _ _)
