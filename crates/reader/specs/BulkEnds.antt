-- The bulk endpoints: 1 IN and 2 OUT.
use Rattle.std.specs.Prelude.{◌≡◌, ℕ, Bool, true, false, cond, List, None}
use Rattle.packet.specs.declared.kind.DataKind.{DataKind}
pub use Rattle.packet.specs.Kinds.{turned, same_kind}
use Rattle.packet.specs.Parts.{data_packet}
use Rattle.reader.specs.declared.state.Expectation.TheVariants.{Nothing, BulkAck}
use Rattle.reader.specs.declared.state.Halts.{Halts}
use Rattle.reader.specs.declared.state.Halts.TheVariants.{Each, Invalid}
use Rattle.reader.specs.Answers.{Answer, quiet, says, acks, naks, stalls}
use Rattle.reader.specs.Control.{expecting, with_bulk}
use Rattle.reader.specs.Disk.{Disk, Written, Left}
use Rattle.reader.specs.Stages.{take_block, take_data, waiting, data_acknowledged}
use Rattle.reader.specs.State.{Bulk, State, Phase, command, data_in, data_out, status}
use Rattle.transport.specs.Statuses.{status_bytes}
use Rattle.transport.specs.declared.blocks.DataDirection.{DataDirection}
use Rattle.transport.specs.declared.blocks.DataDirection.TheVariants.{In, Out}
use Rattle.transport.specs.Toggles.{toggle_turned}

-- what hearing comes to: the state, the answer, and the sector that was written
pub record Outcome : Type 0 where
  pub state : State
  pub answer : Answer
  pub written : Written

-- an arrival came to it: the state after it, its answer, and the disk before and after it
pub record ComesTo (o : Outcome) (after : State) (answered : Answer) (old new : Disk) : Type 0 where
  pub state : after ≡ o.state
  pub answer : answered ≡ o.answer
  pub disk : Left o.written old new

abbrev pub unwritten : State × Answer → Outcome
unwritten p = record { state = p.0; answer = p.1; written = None }

abbrev pub sending_halted : Halts → Bool
sending_halted (Each s r) = s
sending_halted Invalid = true

abbrev pub receiving_halted : Halts → Bool
receiving_halted (Each s r) = r
receiving_halted Invalid = true

abbrev pub halted : DataDirection → Halts → Bool
halted In h = sending_halted h
halted Out h = receiving_halted h

-- data that are taken
abbrev pub taken_as : State → Bulk × Written → Outcome
taken_as s p = record { state = expecting Nothing (with_bulk p.0 s); answer = acks; written = p.1 }

-- data that are not wanted
abbrev pub not_wanted : State → Outcome
not_wanted s = unwritten (expecting Nothing s, naks)

-- expected data, not halted, by the phase; where a status that was sent has had no ACK, they count as that ACK
abbrev pub wanted : Phase → State → Disk → List ℕ → Outcome
wanted command s d body = taken_as s (take_block (toggle_turned Out s.bulk.toggles) s.bulk.halts d.size body, None)
wanted (data_in tag due left moved source) s d body = not_wanted s
wanted (data_out tag due left sector come) s d body = taken_as s (take_data (toggle_turned Out s.bulk.toggles) s.bulk.halts d tag due left sector come body)
wanted (status block true) s d body = taken_as s (take_block (toggle_turned Out (toggle_turned In s.bulk.toggles)) s.bulk.halts d.size body, None)
wanted (status block false) s d body = not_wanted s

-- the data after an OUT; data with the toggle that is not expected are a repeat
abbrev pub bulk_data : State → Disk → DataKind → List ℕ → Outcome
bulk_data s d k body =
    cond (same_kind k s.bulk.toggles.data_out)
    (cond (receiving_halted s.bulk.halts) (unwritten (expecting Nothing s, stalls)) (wanted s.bulk.phase s d body))
    (unwritten (expecting Nothing s, acks))

-- what waits to be sent, by the phase
abbrev pub offered : Phase → State → Disk → State × Answer
offered command s d = (expecting Nothing s, naks)
offered (data_in tag due left moved source) s d = (expecting BulkAck s, says (data_packet s.bulk.toggles.data_in (waiting d left moved source)))
offered (data_out tag due left sector come) s d = (expecting Nothing s, naks)
offered (status block sent) s d = (
  expecting BulkAck (with_bulk (record { toggles = s.bulk.toggles; halts = s.bulk.halts; phase = status block true }) s),
  says (data_packet s.bulk.toggles.data_in (status_bytes block)),
)

-- an IN
abbrev pub bulk_in : State → Disk → State × Answer
bulk_in s d = cond (sending_halted s.bulk.halts) (expecting Nothing s, stalls) (offered s.bulk.phase s d)

-- the acknowledgement of what was sent
abbrev pub bulk_acknowledged : Phase → Bulk → Bulk
bulk_acknowledged command b = b
bulk_acknowledged (data_in tag due left moved source) b = data_acknowledged (toggle_turned In b.toggles) b.halts tag due left moved source
bulk_acknowledged (data_out tag due left sector come) b = b
bulk_acknowledged (status block true) b = record { toggles = toggle_turned In b.toggles; halts = b.halts; phase = command }
bulk_acknowledged (status block false) b = b

abbrev pub bulk_ack : State → State × Answer
bulk_ack s = (expecting Nothing (with_bulk (bulk_acknowledged s.bulk.phase s.bulk) s), quiet)
