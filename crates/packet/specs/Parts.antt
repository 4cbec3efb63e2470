-- A packet as a plain value: its parts, with a list for the body.
use Rattle.std.specs.Prelude.{ℕ, List}
use Rattle.packet.specs.declared.kind.TokenKind.{TokenKind}
use Rattle.packet.specs.declared.kind.DataKind.{DataKind}
use Rattle.packet.specs.declared.kind.Handshake.{Handshake as Handshakes}
use Rattle.packet.specs.declared.packet.Packet.{Packet}
use Rattle.packet.specs.declared.packet.Packet.TheVariants.{Token, Data, Handshake}

pub data Parts : Type 0 where
  token : TokenKind → ℕ → ℕ → Parts
  data_packet : DataKind → List ℕ → Parts
  handshake : Handshakes → Parts

abbrev pub parts : Packet → Parts
parts (Token k a e) = token k a e
parts (Data k body) = data_packet k body.now
parts (Handshake h) = handshake h
