-- What the reader answers, as plain values.
use Rattle.std.specs.Prelude.{ℕ, ◌-◌, List, [], ◌++◌, length, replicate}
use Rattle.packet.specs.declared.kind.Handshake.TheVariants.{Ack, Nak, Stall}
use Rattle.packet.specs.Bodies.{held}
use Rattle.packet.specs.Building.{building}
use Rattle.packet.specs.Parts.{Parts, data_packet, handshake}
use Rattle.reader.specs.declared.answer.Answer.{Answer as Answers}
use Rattle.reader.specs.declared.answer.Answer.TheVariants.{Nothing, Handshake, Data}

pub data Answer : Type 0 where
  quiet : Answer
  says : Parts → Answer

abbrev pub answer_seen : Answers → Answer
answer_seen Nothing = quiet
answer_seen (Handshake h) = says (handshake h)
answer_seen (Data k body) = says (data_packet k (held body))

abbrev pub acks : Answer
acks = says (handshake Ack)

abbrev pub naks : Answer
naks = says (handshake Nak)

abbrev pub stalls : Answer
stalls = says (handshake Stall)

-- the bytes of an answer
abbrev pub answer_bytes : Answer → List ℕ
answer_bytes quiet = []
answer_bytes (says p) = building p

-- 67 bytes of memory with the answer in front and zeros behind
abbrev pub answer_memory : Answer → List ℕ
answer_memory a = answer_bytes a ++ replicate (67 - length (answer_bytes a)) 0
