-- The reader's state as plain values.
use Rattle.std.specs.Prelude.{◌≡◌, ℕ, Bool, true, false, List, take}
use Rattle.reader.specs.declared.phase.Phase.{Phase as Phases}
use Rattle.reader.specs.declared.phase.Phase.TheVariants.{Command, DataIn, DataOut, Status}
use Rattle.reader.specs.declared.phase.Source.{Source}
use Rattle.reader.specs.declared.state.Addresses.TheVariants.{One}
use Rattle.reader.specs.declared.state.Bulk.{Bulk as Ends}
use Rattle.reader.specs.declared.state.Control.{Control as ControlEnd}
use Rattle.reader.specs.declared.state.Core.{Core}
use Rattle.reader.specs.declared.state.Expectation.{Expectation}
use Rattle.reader.specs.declared.state.Expectation.TheVariants.{Nothing, SetupData, ControlData, BulkData, ControlAck, BulkAck}
use Rattle.reader.specs.declared.state.Halts.{Halts}
use Rattle.reader.specs.declared.state.Halts.TheVariants.{Each}
use Rattle.reader.specs.declared.state.Transfer.TheVariants.{None}
use Rattle.transport.specs.declared.statuses.StatusBlock.{StatusBlock}
use Rattle.transport.specs.declared.toggles.Toggles.{Toggles}
use Rattle.transport.specs.Toggles.{both_fresh}

-- where a command stands: a block is awaited; data go to the host (tag, bytes due, left and moved); data come from it
-- (tag, bytes due and left, the sector, and its bytes that have come); a status waits, and may have been sent
pub data Phase : Type 0 where
  command : Phase
  data_in : (tag due left moved : ℕ) → Source → Phase
  data_out : (tag due left sector : ℕ) → List ℕ → Phase
  status : StatusBlock → Bool → Phase

-- the control endpoint, as the code has it
abbrev pub Control : Type 0
Control = ControlEnd

-- the bulk endpoints
pub record Bulk : Type 0 where
  pub toggles : Toggles
  pub halts : Halts
  pub phase : Phase

pub record State : Type 0 where
  pub control : Control
  pub bulk : Bulk
  pub expects : Expectation

-- the phase by the code's, with the buffer in whose front the bytes of a sector stand
abbrev pub phase_seen : Phases → List ℕ → Phase
phase_seen Command buffer = command
phase_seen (DataIn s) buffer = data_in s.tag s.due s.left s.moved s.source
phase_seen (DataOut r) buffer = data_out r.tag r.due r.left r.sector (take r.come buffer)
phase_seen (Status block sent) buffer = status block sent

abbrev pub bulk_seen : Ends → Bulk
bulk_seen b = record { toggles = b.toggles; halts = b.halts; phase = phase_seen b.phase b.buffer }

abbrev pub seen : Core → State
seen c = record {
  control = c.control;
  bulk = bulk_seen c.bulk;
  expects = c.expects;
}

abbrev pub awaits_bulk_data : Expectation → Bool
awaits_bulk_data BulkData = true
awaits_bulk_data Nothing = false
awaits_bulk_data SetupData = false
awaits_bulk_data ControlData = false
awaits_bulk_data ControlAck = false
awaits_bulk_data BulkAck = false

-- the whole buffer stays, those of its bytes too that no command counts, unless data for the endpoint that receives are awaited
abbrev pub BufferKept : Core → Core → Type 0
BufferKept c c' = awaits_bulk_data c.expects ≡ false → c'.bulk.buffer ≡ c.bulk.buffer

-- after a port reset
abbrev pub fresh : State
fresh = record {
  control = record { addresses = One 0; configured = false; transfer = None };
  bulk = record { toggles = both_fresh; halts = Each false false; phase = command };
  expects = Nothing;
}
