-- The worked cases, computed.
use Rattle.std.proofs.Common.{refl}
use Rattle.packet.specs.Bits.{bits, bits_of}
use Rattle.packet.specs.Building.{building}
use Rattle.packet.specs.Promises.{TheWorkedCasesComeOut}
use Rattle.packet.specs.Reading.{reading}
use Rattle.packet.specs.Registers.{taken, fed, mirrored}

pub the_worked_cases_come_out : TheWorkedCasesComeOut
unfolding building reading bits bits_of taken fed mirrored
the_worked_cases_come_out = refl
