-- What the reader does with what it hears.
use Rattle.std.specs.Prelude.{ℕ, cond, ◌&&◌, List, ◌==◌}
use Rattle.packet.specs.declared.kind.DataKind.{DataKind}
use Rattle.packet.specs.declared.kind.Handshake.{Handshake}
use Rattle.packet.specs.declared.kind.Handshake.TheVariants.{Ack, Nak, Stall}
use Rattle.packet.specs.declared.kind.TokenKind.{TokenKind}
use Rattle.packet.specs.declared.kind.TokenKind.TheVariants.{Out, In, Setup}
use Rattle.packet.specs.Parts.{Parts, token, data_packet, handshake}
use Rattle.packet.specs.Reading.{Reading, packet, refused}
use Rattle.reader.specs.declared.state.Expectation.{Expectation}
use Rattle.reader.specs.declared.state.Expectation.TheVariants.{Nothing, SetupData, ControlData, BulkData, ControlAck, BulkAck}
use Rattle.reader.specs.Answers.{quiet}
use Rattle.reader.specs.BulkEnds.{Outcome, unwritten, bulk_data, bulk_in, bulk_ack}
use Rattle.reader.specs.Control.{expecting, with_control, with_addresses, addressed, settled, control_in, setup_data, control_data, control_ack}
use Rattle.reader.specs.Disk.{Disk}
use Rattle.reader.specs.State.{State}

-- no answer, and nothing is expected any more
abbrev pub ignored : State → Outcome
ignored s = unwritten (expecting Nothing s, quiet)

abbrev pub awaits : Expectation → State → Outcome
awaits e s = unwritten (expecting e s, quiet)

-- a token for an address that is heard, by its kind and endpoint; the bulk endpoints are alive only while configured
abbrev pub token_taken : TokenKind → ℕ → State → Disk → Outcome
token_taken Setup e s d = cond (e == 0) (awaits SetupData s) (ignored s)
token_taken Out e s d = cond (e == 0) (awaits ControlData s) (cond (e == 2 && s.control.configured) (awaits BulkData s) (ignored s))
token_taken In e s d = cond (e == 0) (unwritten (control_in s)) (cond (e == 1 && s.control.configured) (unwritten (bulk_in s d)) (ignored s))

abbrev pub hears_token : State → Disk → TokenKind → ℕ → ℕ → Outcome
hears_token s d k a e =
    cond (addressed s.control.addresses a)
    (token_taken k e (with_control (with_addresses (settled s.control.addresses k a) s.control) s) d)
    (ignored s)

-- data count only after a token that makes them expected
abbrev pub hears_data : Expectation → State → Disk → DataKind → List ℕ → Outcome
hears_data SetupData s d k body = unwritten (setup_data s k body)
hears_data ControlData s d k body = unwritten (control_data s)
hears_data BulkData s d k body = bulk_data s d k body
hears_data Nothing s d k body = ignored s
hears_data ControlAck s d k body = ignored s
hears_data BulkAck s d k body = ignored s

-- an ACK counts only after data that were sent
abbrev pub hears_ack : Expectation → State → Outcome
hears_ack ControlAck s = unwritten (control_ack s)
hears_ack BulkAck s = unwritten (bulk_ack s)
hears_ack SetupData s = ignored s
hears_ack ControlData s = ignored s
hears_ack BulkData s = ignored s
hears_ack Nothing s = ignored s

abbrev pub hears_handshake : State → Handshake → Outcome
hears_handshake s Ack = hears_ack s.expects s
hears_handshake s Nak = ignored s
hears_handshake s Stall = ignored s

abbrev pub hears_packet : State → Disk → Parts → Outcome
hears_packet s d (token k a e) = hears_token s d k a e
hears_packet s d (data_packet k body) = hears_data s.expects s d k body
hears_packet s d (handshake h) = hears_handshake s h

abbrev pub hears : State → Disk → Reading → Outcome
hears s d (packet p) = hears_packet s d p
hears s d (refused n) = ignored s
