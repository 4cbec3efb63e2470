-- The answer to an arrival can be sent.
use Rattle.std.proofs.Common.{◌≡◌, ◌≤◌, length, refl, arith, length-append, length-take}
use Rattle.packet.specs.Building.{building}
use Rattle.packet.specs.Reading.{Reading}
use Rattle.reader.specs.Answers.{Answer, answer_bytes}
use Rattle.reader.specs.Disk.{Disk}
use Rattle.reader.specs.Hears.{hears}
use Rattle.reader.specs.Promises.{CanBeSent, AnAnswerIsNothingOrABuiltPacket}
use Rattle.reader.specs.State.{State}
use Rattle.transport.specs.declared.statuses.StatusBlock.{StatusBlock}
use Rattle.transport.specs.Statuses.{status_bytes}

length-status : (block : StatusBlock) → length (status_bytes block) ≡ 13
unfolding status_bytes
length-status block = refl

can_be_sent : (s : State) (d : Disk) (r : Reading) → CanBeSent (hears s d r).answer
can_be_sent s d r = grind (arith, length-take, length-status)

-- a packet that can be built has at most 67 bytes
short_answer : (a : Answer) → CanBeSent a → length (answer_bytes a) ≤ 67
unfolding building
short_answer a can = grind (arith, length-append)

pub an_answer_is_nothing_or_a_built_packet : AnAnswerIsNothingOrABuiltPacket
an_answer_is_nothing_or_a_built_packet s d r = (can_be_sent s d r, short_answer _ (can_be_sent s d r))
