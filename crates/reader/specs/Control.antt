-- The control endpoint: addresses, requests and what they do.
use Rattle.std.specs.Prelude.{ℕ, ◌+◌, ◌*◌, Bool, true, false, cond, ◌&&◌, ◌||◌, List, [], length, ◌==◌, nat_le, slice_index}
use Rattle.packet.specs.declared.kind.DataKind.{DataKind}
use Rattle.packet.specs.declared.kind.DataKind.TheVariants.{Data0, Data1}
use Rattle.packet.specs.declared.kind.TokenKind.{TokenKind}
use Rattle.packet.specs.declared.kind.TokenKind.TheVariants.{Out, In, Setup}
use Rattle.packet.specs.Parts.{data_packet}
use Rattle.reader.specs.declared.state.Addresses.{Addresses}
use Rattle.reader.specs.declared.state.Addresses.TheVariants.{One, Two}
use Rattle.reader.specs.declared.state.Expectation.{Expectation}
use Rattle.reader.specs.declared.state.Expectation.TheVariants.{Nothing, ControlAck}
use Rattle.reader.specs.declared.state.Halts.{Halts}
use Rattle.reader.specs.declared.state.Halts.TheVariants.{Each, Invalid}
use Rattle.reader.specs.declared.state.Request.{Request}
use Rattle.reader.specs.declared.state.Request.TheVariants.{SetAddress, Configure, ClearHalt, ResetTransport}
use Rattle.reader.specs.declared.state.Transfer.{Transfer}
use Rattle.reader.specs.declared.state.Transfer.TheVariants.{None, Asked, Answered, Stalled}
use Rattle.reader.specs.Answers.{Answer, quiet, says, acks, naks, stalls}
use Rattle.reader.specs.State.{Control, Bulk, State, command, fresh}
use Rattle.transport.specs.declared.blocks.DataDirection.{DataDirection}
use Rattle.transport.specs.declared.blocks.DataDirection.TheVariants.{In as Sends, Out as Receives}
use Rattle.transport.specs.Toggles.{toggle_freshened}

-- changes of one part
abbrev pub expecting : Expectation → State → State
expecting e s = record { control = s.control; bulk = s.bulk; expects = e }

abbrev pub with_control : Control → State → State
with_control c s = record { control = c; bulk = s.bulk; expects = s.expects }

abbrev pub with_bulk : Bulk → State → State
with_bulk b s = record { control = s.control; bulk = b; expects = s.expects }

abbrev pub with_addresses : Addresses → Control → Control
with_addresses a c = record { addresses = a; configured = c.configured; transfer = c.transfer }

abbrev pub with_transfer : Transfer → Control → Control
with_transfer t c = record { addresses = c.addresses; configured = c.configured; transfer = t }

-- whether a token's address is heard
abbrev pub addressed : Addresses → ℕ → Bool
addressed (One x) a = a == x
addressed (Two old new) a = a == new || a == old

abbrev pub is_setup : TokenKind → Bool
is_setup Out = false
is_setup In = false
is_setup Setup = true

-- a token for the new address ends the old one, and a SETUP for the old one ends the new
abbrev pub settled : Addresses → TokenKind → ℕ → Addresses
settled (One x) k a = One x
settled (Two old new) k a = cond (a == new) (One new) (cond (is_setup k) (One old) (Two old new))

-- an acknowledged address is the only one
abbrev pub acknowledged : Addresses → Addresses
acknowledged (One x) = One x
acknowledged (Two old new) = One new

-- another address is heard beside the one that is
abbrev pub heard_too : Addresses → ℕ → Addresses
heard_too (One x) a = cond (a == x) (One x) (Two x a)
heard_too (Two old new) a = cond (a == old) (One old) (Two old a)

-- the transfer that a setup begins, by its first two bytes, its value and its index
abbrev pub clear_asked : ℕ → ℕ → Transfer
clear_asked value index =
    cond (value == 0) (cond (index == 0x81) (Asked (ClearHalt Sends)) (cond (index == 0x02) (Asked (ClearHalt Receives)) Stalled)) Stalled

abbrev pub asked : Bool → (kind request value index : ℕ) → Transfer
asked configured kind request value index =
    cond (kind == 0x00 && request == 0x05) (cond (nat_le value 127) (Asked (SetAddress value)) Stalled)
    (cond (kind == 0x00 && request == 0x09) (cond (nat_le value 1) (Asked (Configure (value == 1))) Stalled)
    (cond (kind == 0x02 && request == 0x01) (cond configured (clear_asked value index) Stalled)
    (cond (kind == 0x21 && request == 0xff) (cond configured (Asked ResetTransport) Stalled) Stalled)))

-- the 16-bit number in two bytes, low byte first
abbrev pub word_at : List ℕ → ℕ → ℕ
word_at body i = slice_index body i + slice_index body (i + 1) * 256

abbrev pub begun : Bool → List ℕ → Transfer
begun configured body = asked configured (slice_index body 0) (slice_index body 1) (word_at body 2) (word_at body 4)

-- clear halt: that halt ends and that toggle is DATA0, unless an invalid block came
abbrev pub halt_cleared : DataDirection → Bulk → Halts → Bulk
halt_cleared d b Invalid = b
halt_cleared Sends b (Each s r) = record { toggles = toggle_freshened Sends b.toggles; halts = Each false r; phase = b.phase }
halt_cleared Receives b (Each s r) = record { toggles = toggle_freshened Receives b.toggles; halts = Each s false; phase = b.phase }

-- the transport's reset drops the command, and keeps toggles and halts; after it halts can be cleared
abbrev pub halts_kept : Halts → Halts
halts_kept (Each s r) = Each s r
halts_kept Invalid = Each true true

abbrev pub transport_reset : Bulk → Bulk
transport_reset b = record { toggles = b.toggles; halts = halts_kept b.halts; phase = command }

-- what a request does when its status is first sent
abbrev pub effect : Request → State → State
effect (SetAddress a) s = with_control (with_addresses (heard_too s.control.addresses a) s.control) s
effect (Configure on) s = record { control = record { addresses = s.control.addresses; configured = on; transfer = s.control.transfer }; bulk = fresh.bulk; expects = s.expects }
effect (ClearHalt d) s = with_bulk (halt_cleared d s.bulk s.bulk.halts) s
effect ResetTransport s = with_bulk (transport_reset s.bulk) s

-- what is sent as the status of a control transfer
abbrev pub empty_status : Answer
empty_status = says (data_packet Data1 [])

-- the control endpoint hears an IN
abbrev pub answers_in : Transfer → State → State × Answer
answers_in None s = (expecting Nothing s, naks)
answers_in Stalled s = (expecting Nothing s, stalls)
answers_in Answered s = (expecting ControlAck s, empty_status)
answers_in (Asked r) s = (expecting ControlAck (effect r (with_control (with_transfer Answered s.control) s)), empty_status)

abbrev pub control_in : State → State × Answer
control_in s = answers_in s.control.transfer s

-- it hears the data after a SETUP
abbrev pub is_data0 : DataKind → Bool
is_data0 Data0 = true
is_data0 Data1 = false

abbrev pub setup_data : State → DataKind → List ℕ → State × Answer
setup_data s k body =
    cond (is_data0 k && length body == 8)
    (expecting Nothing (with_control (with_transfer (begun s.control.configured body) s.control) s), acks)
    (expecting Nothing s, quiet)

-- it hears the data after an OUT
abbrev pub answers_out : Transfer → Answer
answers_out None = acks
answers_out (Asked r) = acks
answers_out Answered = acks
answers_out Stalled = stalls

abbrev pub control_data : State → State × Answer
control_data s = (expecting Nothing s, answers_out s.control.transfer)

-- it hears the acknowledgement of a status
abbrev pub control_ack : State → State × Answer
control_ack s = (expecting Nothing (with_control (with_addresses (acknowledged s.control.addresses) s.control) s), quiet)
