-- The causes of giving up, each with its number, and the faults that the layers make of one.
use Rattle.std.specs.Prelude.{ℕ, List, codes}
use Rattle.host.specs.declared.fault.Cause.{Cause}
use Rattle.host.specs.declared.fault.Cause.TheVariants.{Nothing, Damaged, Repeat, NotReady, Stalled, WrongReply}
use Rattle.host.specs.declared.fault.Fault.{Fault}
use Rattle.host.specs.declared.fault.Stage.{Stage}
use Rattle.host.specs.declared.fault.Stage.TheVariants.{Block, Data, Status, Control}
use Rattle.host.specs.declared.fault.TransportFault.{TransportFault}

abbrev pub cause_number : Cause → ℕ
cause_number Nothing = 1
cause_number Damaged = 2
cause_number Repeat = 3
cause_number NotReady = 4
cause_number Stalled = 5
cause_number WrongReply = 6

abbrev pub stage_name : Stage → List ℕ
stage_name Block = codes "block"
stage_name Data = codes "data"
stage_name Status = codes "status"
stage_name Control = codes "control"

-- a cause at an endpoint, in a stage, at a packet
abbrev pub located : Cause → ℕ → Stage → ℕ → TransportFault
located cause endpoint stage packet = record { transaction = record { cause = cause }; place = record { endpoint = endpoint; stage = stage; packet = packet } }

-- that fault in the command with this tag
abbrev pub tagged : TransportFault → ℕ → Fault
tagged fault tag = record { cause = fault.transaction.cause; place = fault.place; tag = tag }
