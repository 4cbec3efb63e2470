-- The kinds of packets and the parts of a link by their names in a script.
use Rattle.std.specs.Prelude.{ℕ, cond, List, [], ◌∷◌, Ok, Err, codes, Result}
use Rattle.std.specs.Borrow.{Bor}
use Rattle.std.specs.Str.{bytes_eq}
use Rattle.packet.specs.declared.kind.TokenKind.{TokenKind}
use Rattle.packet.specs.declared.kind.TokenKind.TheVariants.{Out, In, Setup}
use Rattle.packet.specs.declared.kind.DataKind.{DataKind}
use Rattle.packet.specs.declared.kind.DataKind.TheVariants.{Data0, Data1}
use Rattle.packet.specs.declared.kind.Handshake.{Handshake}
use Rattle.packet.specs.declared.kind.Handshake.TheVariants.{Ack, Nak, Stall}
use Rattle.packet.specs.Names.{token_kind_name, data_kind_name, handshake_name}
use Rattle.wire.specs.declared.hub.Port.{Port}
use Rattle.wire.specs.declared.hub.Port.TheVariants.{Open, Closed}
use Rattle.wire.specs.Names.{port_name}
use Rattle.wire.specs.declared.interface.Direction.{Direction}
use Rattle.wire.specs.declared.interface.Direction.TheVariants.{Outward, Homeward}
use Rattle.script.specs.declared.link.Cable.{Cable}
use Rattle.script.specs.declared.link.Cable.TheVariants.{First, Second}
use Rattle.script.specs.declared.misread.Misread.{Misread}
use Rattle.script.specs.declared.misread.Misread.TheVariants.{UnknownKind, NotACable, NotAPort, NotADirection}

-- what has this name, or else what the other names say
abbrev pub named : {X : Type 0} → List ℕ → List ℕ → X → Result X Misread → Result X Misread
named word name x other = cond (bytes_eq word name) (Ok x) other

-- the first of the table that has this name
abbrev pub named_among : {X : Type 0} → List ℕ → List (Bor (List ℕ) × X) → Misread → Result X Misread
named_among word [] why = Err why
named_among word (entry ∷ more) why = named word entry.0.now entry.1 (named_among word more why)

abbrev pub token_kind_read : List ℕ → Result TokenKind Misread
token_kind_read w = named w (token_kind_name Out) Out (named w (token_kind_name In) In (named w (token_kind_name Setup) Setup (Err UnknownKind)))

abbrev pub data_kind_read : List ℕ → Result DataKind Misread
data_kind_read w = named w (data_kind_name Data0) Data0 (named w (data_kind_name Data1) Data1 (Err UnknownKind))

abbrev pub handshake_read : List ℕ → Result Handshake Misread
handshake_read w = named w (handshake_name Ack) Ack (named w (handshake_name Nak) Nak (named w (handshake_name Stall) Stall (Err UnknownKind)))

abbrev pub cable_name : Cable → List ℕ
cable_name First = codes "1"
cable_name Second = codes "2"

abbrev pub cable_read : List ℕ → Result Cable Misread
cable_read w = named w (cable_name First) First (named w (cable_name Second) Second (Err NotACable))

abbrev pub port_read : List ℕ → Result Port Misread
port_read w = named w (port_name Open) Open (named w (port_name Closed) Closed (Err NotAPort))

abbrev pub direction_read : List ℕ → Result Direction Misread
direction_read w = named w (codes "outward") Outward (named w (codes "homeward") Homeward (Err NotADirection))
