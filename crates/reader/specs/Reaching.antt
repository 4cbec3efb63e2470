-- Which arrivals reach the bulk endpoints.
use Rattle.std.specs.Prelude.{◌≡◌, Bool, true, false, not, ◌&&◌, List, [], ◌∷◌, ◌==◌}
use Rattle.packet.specs.declared.kind.DataKind.{DataKind}
use Rattle.packet.specs.declared.kind.Handshake.TheVariants.{Ack, Nak, Stall}
use Rattle.packet.specs.declared.kind.TokenKind.TheVariants.{Out, In, Setup}
use Rattle.packet.specs.Kinds.{same_kind}
use Rattle.packet.specs.Parts.{token, data_packet, handshake}
use Rattle.packet.specs.Reading.{Reading, packet, refused}
use Rattle.reader.specs.declared.state.Expectation.{Expectation}
use Rattle.reader.specs.declared.state.Expectation.TheVariants.{Nothing, SetupData, ControlData, BulkData, ControlAck, BulkAck}
use Rattle.reader.specs.declared.state.Request.TheVariants.{SetAddress, Configure, ClearHalt, ResetTransport}
use Rattle.reader.specs.declared.state.Transfer.{Transfer}
use Rattle.reader.specs.declared.state.Transfer.TheVariants.{None as NoTransfer, Asked, Answered, Stalled}
use Rattle.reader.specs.BulkEnds.{receiving_halted}
use Rattle.reader.specs.Control.{addressed}
use Rattle.reader.specs.Disk.{Disk}
use Rattle.reader.specs.Hears.{hears}
use Rattle.reader.specs.State.{State, Phase, command, data_in, data_out, status}

-- in this phase data are wanted
abbrev pub wants : Phase → Bool
wants command = true
wants (data_in tag due left moved source) = false
wants (data_out tag due left sector come) = true
wants (status block sent) = sent

-- data are taken by the bulk endpoint: they are expected, no repeat, and wanted, and the endpoint is not halted
abbrev pub takes : Expectation → State → DataKind → Bool
takes BulkData s k = same_kind k s.bulk.toggles.data_out && (not (receiving_halted s.bulk.halts) && wants s.bulk.phase)
takes Nothing s k = false
takes SetupData s k = false
takes ControlData s k = false
takes ControlAck s k = false
takes BulkAck s k = false

-- an ACK counts for what a bulk endpoint sent
abbrev pub counts_for_bulk : Expectation → Bool
counts_for_bulk BulkAck = true
counts_for_bulk Nothing = false
counts_for_bulk SetupData = false
counts_for_bulk ControlData = false
counts_for_bulk BulkData = false
counts_for_bulk ControlAck = false

-- a request waits that will change the bulk endpoints when its status is first sent
abbrev pub changes_bulk : Transfer → Bool
changes_bulk NoTransfer = false
changes_bulk Answered = false
changes_bulk Stalled = false
changes_bulk (Asked (SetAddress a)) = false
changes_bulk (Asked (Configure on)) = true
changes_bulk (Asked (ClearHalt direction)) = true
changes_bulk (Asked ResetTransport) = true

-- an arrival reaches the bulk endpoints: by it such a request takes effect, or data are taken, or an ACK counts; an IN
-- does not, since it changes nothing but that a status has been sent
abbrev pub reaches_bulk : State → Reading → Bool
reaches_bulk s (packet (token In a e)) = addressed s.control.addresses a && (e == 0 && changes_bulk s.control.transfer)
reaches_bulk s (packet (token Out a e)) = false
reaches_bulk s (packet (token Setup a e)) = false
reaches_bulk s (packet (data_packet k body)) = takes s.expects s k
reaches_bulk s (packet (handshake Ack)) = counts_for_bulk s.expects
reaches_bulk s (packet (handshake Nak)) = false
reaches_bulk s (packet (handshake Stall)) = false
reaches_bulk s (refused n) = false

-- no arrival reaches the bulk endpoints in the state in which it is heard
abbrev pub NoneReachesBulk : State → Disk → List Reading → Type 0
NoneReachesBulk s d [] = Unit {0}
NoneReachesBulk s d (r ∷ rs) = (reaches_bulk s r ≡ false) × NoneReachesBulk (hears s d r).state d rs
