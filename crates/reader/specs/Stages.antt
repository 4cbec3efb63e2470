-- The stages of a command: a block is taken, data move, a status is left.
use Rattle.std.specs.Prelude.{ℕ, ◌+◌, ◌-◌, ◌*◌, min, Bool, true, false, cond, ◌&&◌, List, [], ◌++◌, length, take, drop, Some, None, Ok, Err, Option, Result, ◌==◌, nat_le, nat_lt}
use Rattle.reader.specs.declared.phase.Source.{Source}
use Rattle.reader.specs.declared.phase.Source.TheVariants.{Capacity as CapacityReply, Sectors}
use Rattle.reader.specs.declared.state.Halts.{Halts}
use Rattle.reader.specs.declared.state.Halts.TheVariants.{Each, Invalid}
use Rattle.reader.specs.Disk.{Disk, all_bytes, Written}
use Rattle.reader.specs.State.{Bulk, command, data_in, data_out, status}
use Rattle.store.specs.declared.answers.StoreRefusal.{StoreRefusal}
use Rattle.store.specs.declared.answers.Verdict.{Verdict}
use Rattle.store.specs.declared.answers.Verdict.TheVariants.{Taken, Locked, Full}
use Rattle.store.specs.Access.{write_answer}
use Rattle.transport.specs.Blocks.{block_read}
use Rattle.transport.specs.Capacity.{capacity_bytes}
use Rattle.transport.specs.Commands.{command_of}
use Rattle.transport.specs.declared.blocks.CommandBlock.{CommandBlock}
use Rattle.transport.specs.declared.blocks.DataDirection.{DataDirection}
use Rattle.transport.specs.declared.blocks.DataDirection.TheVariants.{In, Out}
use Rattle.transport.specs.declared.commands.Command.{Command}
use Rattle.transport.specs.declared.commands.Command.TheVariants.{Test, Capacity, Read, Write}
use Rattle.transport.specs.declared.refusals.TransportRefusal.{TransportRefusal}
use Rattle.transport.specs.declared.statuses.Status.{Status}
use Rattle.transport.specs.declared.statuses.Status.TheVariants.{Passed, Failed, PhaseError}
use Rattle.transport.specs.declared.toggles.Toggles.{Toggles}

-- what a command comes to: no data, and it passes or fails; so many bytes to the host; so many bytes for sectors
pub data Plan : Type 0 where
  passes : Plan
  fails : Plan
  sends : Source → ℕ → Plan
  receives : ℕ → ℕ → Plan

abbrev pub within : (size sector count : ℕ) → Plan → Plan
within size sector count plan = cond (nat_le (sector + count) size) (cond (count == 0) passes plan) fails

-- an unknown command fails, and so does one that reaches past the size
abbrev pub plan_of : Option Command → ℕ → Plan
plan_of None size = fails
plan_of (Some Test) size = passes
plan_of (Some Capacity) size = sends CapacityReply 8
plan_of (Some (Read sector count)) size = within size sector count (sends (Sectors sector) (count * 512))
plan_of (Some (Write sector count)) size = within size sector count (receives sector (count * 512))

-- the halt of a direction's endpoint begun or ended
abbrev pub halt_set : DataDirection → Bool → Halts → Halts
halt_set In halt (Each s r) = Each halt r
halt_set Out halt (Each s r) = Each s halt
halt_set In halt Invalid = Invalid
halt_set Out halt Invalid = Invalid

-- the endpoint of a direction halts
abbrev pub halting : DataDirection → Halts → Halts
halting d h = halt_set d true h

-- it halts if bytes are still due
abbrev pub if_due : ℕ → DataDirection → Halts → Halts
if_due due d h = cond (nat_lt 0 due) (halting d h) h

-- data are over: so many bytes are still due, the endpoint halts if there are any, and a status waits
abbrev pub over : Toggles → Halts → DataDirection → (tag due : ℕ) → Status → Bulk
over t h d tag due result = record { toggles = t; halts = if_due due d h; phase = status (record { tag = tag; residue = due; status = result }) false }

abbrev pub goes_in : DataDirection → Bool
goes_in In = true
goes_in Out = false

abbrev pub goes_out : DataDirection → Bool
goes_out In = false
goes_out Out = true

-- a command begins; one whose data do not fit the block's direction and length is not executed
abbrev pub begin : Toggles → Halts → CommandBlock → Plan → Bulk
begin t h b passes = over t h b.direction b.tag b.length Passed
begin t h b fails = over t h b.direction b.tag b.length Failed
begin t h b (sends source n) =
    cond (goes_in b.direction && nat_le n b.length) (record { toggles = t; halts = h; phase = data_in b.tag b.length n 0 source }) (over t h b.direction b.tag b.length PhaseError)
begin t h b (receives sector n) =
    cond (goes_out b.direction && nat_le n b.length) (record { toggles = t; halts = h; phase = data_out b.tag b.length n sector [] }) (over t h b.direction b.tag b.length PhaseError)

abbrev pub taken_block : Toggles → Halts → ℕ → Result CommandBlock TransportRefusal → Bulk
taken_block t h size (Ok b) = begin t h b (plan_of (command_of b.command) size)
taken_block t h size (Err e) = record { toggles = t; halts = Invalid; phase = command }

-- a data packet is taken as a command block; an invalid one halts both endpoints
abbrev pub take_block : Toggles → Halts → ℕ → List ℕ → Bulk
take_block t h size body = taken_block t h size (block_read body)

-- a sector has come whole: by the store's answer it is written and the data go on or are over, or they are over with the
-- sector still due
abbrev pub sector_answered : Toggles → Halts → (tag due left sector : ℕ) → List ℕ → Result Verdict StoreRefusal → Bulk × Written
sector_answered t h tag due left sector bytes (Ok Taken) = (
  cond (left == 0) (over t h Out tag due Passed) (record { toggles = t; halts = h; phase = data_out tag due left (sector + 1) [] }),
  Some (sector, bytes),
)
sector_answered t h tag due left sector bytes (Ok Locked) = (record { toggles = t; halts = if_due due Out h; phase = status (record { tag = tag; residue = due + 512; status = Failed }) false }, None)
sector_answered t h tag due left sector bytes (Ok Full) = (record { toggles = t; halts = if_due due Out h; phase = status (record { tag = tag; residue = due + 512; status = Failed }) false }, None)
sector_answered t h tag due left sector bytes (Err e) = (record { toggles = t; halts = if_due due Out h; phase = status (record { tag = tag; residue = due + 512; status = Failed }) false }, None)

-- the bytes of a sector so far, with those of one more packet
abbrev pub come_so_far : Toggles → Halts → Disk → (tag due left sector : ℕ) → List ℕ → Bulk × Written
come_so_far t h d tag due left sector bytes =
    cond (length bytes == 512)
    (sector_answered t h tag due left sector bytes (write_answer d.size sector 512 (d.verdict sector bytes)))
    (record { toggles = t; halts = h; phase = data_out tag due left sector bytes }, None)

-- a data packet is taken as data; one that is not as long as it should be is not stored, and data are over
abbrev pub take_data : Toggles → Halts → Disk → (tag due left sector : ℕ) → List ℕ → List ℕ → Bulk × Written
take_data t h d tag due left sector come body =
    cond (length body == min 64 left)
    (come_so_far t h d tag (due - length body) (left - length body) sector (come ++ body))
    (over t h Out tag due PhaseError, None)

-- the bytes that a command sends
abbrev pub source_bytes : Disk → Source → List ℕ
source_bytes d CapacityReply = capacity_bytes d.size
source_bytes d (Sectors first) = all_bytes (drop first d.sectors)

-- the packet that waits: the next bytes, at most 64
abbrev pub waiting : Disk → (left moved : ℕ) → Source → List ℕ
waiting d left moved source = take (min 64 left) (drop moved (source_bytes d source))

-- it is acknowledged
abbrev pub sent_on : Toggles → Halts → (tag due left moved : ℕ) → Source → Bulk
sent_on t h tag due left moved source =
    cond (left == 0) (over t h In tag due Passed) (record { toggles = t; halts = h; phase = data_in tag due left moved source })

abbrev pub data_acknowledged : Toggles → Halts → (tag due left moved : ℕ) → Source → Bulk
data_acknowledged t h tag due left moved source = sent_on t h tag (due - min 64 left) (left - min 64 left) (moved + min 64 left) source
