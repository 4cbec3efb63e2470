-- The kinds of packets and their first bytes.
use Rattle.std.specs.Prelude.{ℕ, ◌+◌, ◌/◌, ◌%◌, Bool, true, false, cond, List, [], ◌∷◌, Ok, Err, Result, ◌==◌}
use Rattle.packet.specs.declared.kind.TokenKind.TheVariants.{Out, In, Setup}
use Rattle.packet.specs.declared.kind.DataKind.{DataKind}
use Rattle.packet.specs.declared.kind.DataKind.TheVariants.{Data0, Data1}
use Rattle.packet.specs.declared.kind.Handshake.TheVariants.{Ack, Nak, Stall}
use Rattle.packet.specs.declared.kind.Kind.{Kind}
use Rattle.packet.specs.declared.kind.Kind.TheVariants.{Token, Data, Handshake as AHandshake}
use Rattle.packet.specs.declared.refusal.Refusal.{Refusal}
use Rattle.packet.specs.declared.refusal.Refusal.TheVariants.{WrongComplement, UnknownKind}

abbrev pub pid : Kind → ℕ
pid (Token Out) = 0xe1
pid (Token In) = 0x69
pid (Token Setup) = 0x2d
pid (Data Data0) = 0xc3
pid (Data Data1) = 0x4b
pid (AHandshake Ack) = 0xd2
pid (AHandshake Nak) = 0x5a
pid (AHandshake Stall) = 0x1e

-- every kind, once
abbrev pub kinds : List Kind
kinds = Token Out ∷ Token In ∷ Token Setup ∷ Data Data0 ∷ Data Data1 ∷ AHandshake Ack ∷ AHandshake Nak ∷ AHandshake Stall ∷ []

-- the first of the listed kinds that begins with this byte
abbrev pub sought : List Kind → ℕ → Result Kind Refusal
sought [] b = Err UnknownKind
sought (k ∷ ks) b = cond (b == pid k) (Ok k) (sought ks b)

-- a first byte names a kind: its high half is the complement of its low half, and the kind is listed
abbrev pub kind_of_pid : ℕ → Result Kind Refusal
kind_of_pid b = cond (b / 16 + b % 16 == 15) (sought kinds b) (Err WrongComplement)

-- the other kind of data
abbrev pub turned : DataKind → DataKind
turned Data0 = Data1
turned Data1 = Data0

-- two kinds of data are one; the derived `==` answers this
abbrev pub same_kind : DataKind → DataKind → Bool
same_kind Data0 Data0 = true
same_kind Data0 Data1 = false
same_kind Data1 Data0 = false
same_kind Data1 Data1 = true
