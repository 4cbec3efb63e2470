-- The kinds of packets by their names.
use Rattle.std.specs.Prelude.{ℕ, List, codes}
use Rattle.packet.specs.declared.kind.TokenKind.{TokenKind}
use Rattle.packet.specs.declared.kind.TokenKind.TheVariants.{Out, In, Setup}
use Rattle.packet.specs.declared.kind.DataKind.{DataKind}
use Rattle.packet.specs.declared.kind.DataKind.TheVariants.{Data0, Data1}
use Rattle.packet.specs.declared.kind.Handshake.{Handshake}
use Rattle.packet.specs.declared.kind.Handshake.TheVariants.{Ack, Nak, Stall}

abbrev pub token_kind_name : TokenKind → List ℕ
token_kind_name Out = codes "OUT"
token_kind_name In = codes "IN"
token_kind_name Setup = codes "SETUP"

abbrev pub data_kind_name : DataKind → List ℕ
data_kind_name Data0 = codes "DATA0"
data_kind_name Data1 = codes "DATA1"

abbrev pub handshake_name : Handshake → List ℕ
handshake_name Ack = codes "ACK"
handshake_name Nak = codes "NAK"
handshake_name Stall = codes "STALL"
