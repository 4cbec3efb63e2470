-- Arrivals one after another, and those of a reset recovery.
use Rattle.std.specs.Prelude.{ℕ, List, [], ◌∷◌, ◌++◌}
use Rattle.packet.specs.declared.kind.DataKind.TheVariants.{Data0}
use Rattle.packet.specs.declared.kind.Handshake.TheVariants.{Ack}
use Rattle.packet.specs.declared.kind.TokenKind.TheVariants.{In, Setup}
use Rattle.packet.specs.Parts.{token, data_packet, handshake}
use Rattle.packet.specs.Reading.{Reading, packet}
use Rattle.reader.specs.Disk.{Disk}
use Rattle.reader.specs.Hears.{hears}
use Rattle.reader.specs.State.{State}

-- the state after hearing one after another; the disk is the same throughout
abbrev pub heard_all : State → Disk → List Reading → State
heard_all s d [] = s
heard_all s d (r ∷ rs) = heard_all (hears s d r).state d rs

-- a control transfer that carries no data after its setup, each packet delivered
abbrev pub control_transfer : (address : ℕ) → (setup : List ℕ) → List Reading
control_transfer a setup = packet (token Setup a 0) ∷ packet (data_packet Data0 setup) ∷ packet (token In a 0) ∷ packet (handshake Ack) ∷ []

-- the setups of the transport's reset, of clear halt for 1 IN and of clear halt for 2 OUT
abbrev pub reset_setup : List ℕ
reset_setup = 0x21 ∷ 0xff ∷ 0 ∷ 0 ∷ 0 ∷ 0 ∷ 0 ∷ 0 ∷ []

abbrev pub clear_in_setup : List ℕ
clear_in_setup = 0x02 ∷ 0x01 ∷ 0 ∷ 0 ∷ 0x81 ∷ 0 ∷ 0 ∷ 0 ∷ []

abbrev pub clear_out_setup : List ℕ
clear_out_setup = 0x02 ∷ 0x01 ∷ 0 ∷ 0 ∷ 0x02 ∷ 0 ∷ 0 ∷ 0 ∷ []

abbrev pub recovery : (address : ℕ) → List Reading
recovery a = control_transfer a reset_setup ++ (control_transfer a clear_in_setup ++ control_transfer a clear_out_setup)
