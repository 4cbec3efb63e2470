-- A command: its block, its data, its status.
use Rattle.std.specs.Prelude.{ℕ, zero, suc, ◌+◌, ◌-◌, ◌*◌, ◌/◌, ◌%◌, ◌^◌, min, Bool, true, false, cond, ◌&&◌, List, ◌++◌, length, take, drop, replicate, Some, None, Ok, Err, Option, Result, ◌==◌}
use Rattle.packet.specs.declared.kind.TokenKind.TheVariants.{Out, In}
use Rattle.packet.specs.Parts.{token, data_packet}
use Rattle.transport.specs.declared.blocks.CommandBlock.{CommandBlock}
use Rattle.transport.specs.declared.blocks.DataDirection.{DataDirection}
use Rattle.transport.specs.declared.blocks.DataDirection.TheVariants.{In as DataIn, Out as DataOut}
use Rattle.transport.specs.declared.commands.Command.{Command}
use Rattle.transport.specs.declared.commands.Command.TheVariants.{Test, Capacity, Read, Write}
use Rattle.transport.specs.declared.refusals.TransportRefusal.{TransportRefusal}
use Rattle.transport.specs.declared.statuses.Status.{Status}
use Rattle.transport.specs.declared.statuses.Status.TheVariants.{Passed as StatusPassed, Failed as StatusFailed, PhaseError}
use Rattle.transport.specs.declared.statuses.StatusBlock.{StatusBlock}
use Rattle.transport.specs.declared.toggles.Toggles.{Toggles}
use Rattle.transport.specs.Blocks.{block_bytes}
use Rattle.transport.specs.Capacity.{capacity_of}
use Rattle.transport.specs.Commands.{command_bytes, command_size}
use Rattle.transport.specs.Statuses.{status_read}
use Rattle.transport.specs.Toggles.{toggle_turned}
use Rattle.host.specs.declared.command.CommandFailed.{CommandFailed}
use Rattle.host.specs.declared.command.Opened.{Opened}
use Rattle.host.specs.declared.command.DataOver.{DataOver}
use Rattle.host.specs.declared.fault.Cause.TheVariants.{Nothing, Stalled, WrongReply}
use Rattle.host.specs.declared.fault.Fault.{Fault}
use Rattle.host.specs.declared.fault.Stage.TheVariants.{Block, Data, Status as StatusStage}
use Rattle.host.specs.declared.fault.TransportFault.{TransportFault}
use Rattle.host.specs.Faults.{located, tagged}
use Rattle.host.specs.Process.{Process, done, bind}
use Rattle.host.specs.Transactions.{Ending, passed, stalled, gave_up}
use Rattle.host.specs.Tries.{delivers, fetches}
use Rattle.host.specs.Transfers.{Transferred, clears}

-- the block by which a command is sent that is to move so many bytes
abbrev pub block_of : (tag moves : ℕ) → DataDirection → Command → CommandBlock
block_of tag moves way k = record { tag = tag; length = moves; direction = way; command_length = command_size k; command = command_bytes k }

abbrev pub open_command : (tag moves : ℕ) → Opened
open_command tag moves = record { tag = tag; length = moves }

abbrev pub data_over : (tag moves : ℕ) → Bool → DataOver
data_over tag moves whole = record { tag = tag; length = moves; whole = whole }

-- the block is sent
abbrev pub block_ended : (tag moves : ℕ) → Toggles → Ending (Unit {0}) → Result Opened Fault × Toggles
block_ended tag moves t (passed _) = (Ok (open_command tag moves), toggle_turned DataOut t)
block_ended tag moves t stalled = (Err (tagged (located Stalled 2 Block 0) tag), t)
block_ended tag moves t (gave_up cause) = (Err (tagged (located cause 2 Block 0) tag), t)

abbrev pub opens : (tag moves : ℕ) → DataDirection → Command → Toggles → Process (Result Opened Fault × Toggles)
opens tag moves way k t =
    bind (delivers 3 (token Out 1 2) (data_packet t.data_out (block_bytes (block_of tag moves way k))) Nothing) (λ e. done (block_ended tag moves t e))

-- data ended by STALL: the halt is cleared
abbrev pub data_stopped : (tag moves : ℕ) → Transferred × Toggles → Result DataOver Fault × Toggles
data_stopped tag moves (Ok _, t) = (Ok (data_over tag moves false), t)
data_stopped tag moves (Err fault, t) = (Err (tagged fault tag), t)

-- how many packets so many bytes make, at most 64 to a packet
abbrev pub packet_count : ℕ → ℕ
packet_count n = (n + 63) / 64

-- where a packet begins, and how many bytes it has
abbrev pub packet_start : ℕ → ℕ
packet_start index = index * 64

abbrev pub packet_size : ℕ → ℕ → ℕ
packet_size total index = min 64 (total - packet_start index)

-- a packet of data has gone out, or not
abbrev pub data_delivered : (index tag moves : ℕ) → Toggles → Process (Result DataOver Fault × Toggles) → Ending (Unit {0}) → Process (Result DataOver Fault × Toggles)
data_delivered index tag moves t next (passed _) = next
data_delivered index tag moves t next stalled = bind (clears DataOut t) (λ r. done (data_stopped tag moves r))
data_delivered index tag moves t next (gave_up cause) = done (Err (tagged (located cause 2 Data index) tag), t)

-- data go out: so many packets are left, the next one has this place
abbrev pub delivers_data : (packets index tag : ℕ) → List ℕ → Toggles → Process (Result DataOver Fault × Toggles)
delivers_data zero index tag bytes t = done (Ok (data_over tag (length bytes) true), t)
delivers_data (suc p) index tag bytes t =
    bind
    (delivers 3 (token Out 1 2) (data_packet t.data_out (take (packet_size (length bytes) index) (drop (packet_start index) bytes))) Nothing)
    (data_delivered index tag (length bytes) t (delivers_data p (index + 1) tag bytes (toggle_turned DataOut t)))

-- a buffer with the bytes of a packet laid in at a place
abbrev pub laid_at : ℕ → List ℕ → List ℕ → List ℕ
laid_at place body buffer = take place buffer ++ (body ++ drop (place + length body) buffer)

-- what fetching data comes to: the ending, the toggles, and what the buffer holds
abbrev pub FetchedData : Type 0
FetchedData = Result DataOver Fault × Toggles × List ℕ

abbrev pub fetch_stopped : (tag moves : ℕ) → List ℕ → Transferred × Toggles → FetchedData
fetch_stopped tag moves buffer r = ((data_stopped tag moves r).0, r.1, buffer)

-- a packet of data has come in, or not
abbrev pub data_fetched : (index tag : ℕ) → Toggles → List ℕ → (List ℕ → Process FetchedData) → Ending (List ℕ) → Process FetchedData
data_fetched index tag t buffer next (passed body) = next (laid_at (packet_start index) body buffer)
data_fetched index tag t buffer next stalled = bind (clears DataIn t) (λ r. done (fetch_stopped tag (length buffer) buffer r))
data_fetched index tag t buffer next (gave_up cause) = done (Err (tagged (located cause 1 Data index) tag), t, buffer)

-- data come in: so many packets are left, the next one has this place
abbrev pub fetches_data : (packets index tag : ℕ) → Toggles → List ℕ → Process FetchedData
fetches_data zero index tag t buffer = done (Ok (data_over tag (length buffer) true), t, buffer)
fetches_data (suc p) index tag t buffer =
    bind
    (fetches 3 (token In 1 1) t.data_in (Some (packet_size (length buffer) index)) Nothing)
    (data_fetched index tag t buffer (fetches_data p (index + 1) tag (toggle_turned DataIn t)))

-- how a command ended that was not given up
abbrev pub Outcome : Type 0 → Type 0
Outcome A = Result A CommandFailed

abbrev pub command_failed : (residue : ℕ) → CommandFailed
command_failed residue = record { residue = residue }

-- what a status says of a command whose data are over: passed only if nothing is missing
abbrev pub wrong_reply : TransportFault
wrong_reply = located WrongReply 1 StatusStage 0

abbrev pub status_judged : (whole : Bool) (residue : ℕ) → Status → Result (Outcome (Unit {0})) TransportFault
status_judged whole residue StatusPassed = cond (whole && residue == 0) (Ok (Ok tt)) (Err wrong_reply)
status_judged whole residue StatusFailed = Ok (Err (command_failed residue))
status_judged whole residue PhaseError = Err wrong_reply

abbrev pub status_heard : Bool → Result StatusBlock TransportRefusal → Result (Outcome (Unit {0})) TransportFault
status_heard whole (Ok s) = status_judged whole s.residue s.status
status_heard whole (Err refusal) = Err wrong_reply

-- the fault of a command is told with its tag
abbrev pub in_command : {A : Type 0} → ℕ → Result A TransportFault → Result A Fault
in_command tag (Ok a) = Ok a
in_command tag (Err fault) = Err (tagged fault tag)

abbrev pub Concluded : Type 0
Concluded = Result (Outcome (Unit {0})) Fault × Toggles

-- the halt at status is cleared, and the status is asked for again
abbrev pub status_again : ℕ → (Toggles → Process Concluded) → Transferred × Toggles → Process Concluded
status_again tag next (Ok _, t) = next t
status_again tag next (Err fault, t) = done (Err (tagged fault tag), t)

abbrev pub status_fetched : DataOver → Toggles → Process Concluded → Ending (List ℕ) → Process Concluded
status_fetched o t met_stall (passed body) = done (in_command o.tag (status_heard o.whole (status_read body o.tag o.length)), toggle_turned DataIn t)
status_fetched o t met_stall stalled = met_stall
status_fetched o t met_stall (gave_up cause) = done (Err (tagged (located cause 1 StatusStage 0) o.tag), t)

-- the status is asked for, where STALL is the end
abbrev pub concludes_now : DataOver → Toggles → Process Concluded
concludes_now o t = bind (fetches 3 (token In 1 1) t.data_in None Nothing) (status_fetched o t (done (Err (tagged (located Stalled 1 StatusStage 0) o.tag), t)))

-- the status is asked for; STALL is cleared once
abbrev pub concludes : DataOver → Toggles → Process Concluded
concludes o t = bind (fetches 3 (token In 1 1) t.data_in None Nothing) (status_fetched o t (bind (clears DataIn t) (status_again o.tag (concludes_now o))))

-- data are over, and the status is asked for; or the command was given up
abbrev pub then_concludes : Result DataOver Fault × Toggles → Process Concluded
then_concludes (Ok o, t) = concludes o t
then_concludes (Err fault, t) = done (Err fault, t)

-- a command without data
abbrev pub opened_without_data : Result Opened Fault × Toggles → Process Concluded
opened_without_data (Ok o, t) = concludes (data_over o.tag o.length true) t
opened_without_data (Err fault, t) = done (Err fault, t)

abbrev pub conducts : (tag : ℕ) → Command → Toggles → Process Concluded
conducts tag k t = bind (opens tag 0 DataOut k t) opened_without_data

-- a command whose data go out
abbrev pub opened_out : List ℕ → Result Opened Fault × Toggles → Process Concluded
opened_out bytes (Ok o, t) = bind (delivers_data (packet_count (length bytes)) 0 o.tag bytes t) then_concludes
opened_out bytes (Err fault, t) = done (Err fault, t)

abbrev pub conducts_out : (tag : ℕ) → Command → List ℕ → Toggles → Process Concluded
conducts_out tag k bytes t = bind (opens tag (length bytes) DataOut k t) (opened_out bytes)

-- a command whose data come in: the outcome, the toggles and the buffer
abbrev pub ConductedIn : Type 0
ConductedIn = Result (Outcome (Unit {0})) Fault × Toggles × List ℕ

abbrev pub with_buffer : List ℕ → Concluded → ConductedIn
with_buffer buffer r = (r.0, r.1, buffer)

abbrev pub then_concludes_in : FetchedData → Process ConductedIn
then_concludes_in (Ok o, t, buffer) = bind (concludes o t) (λ r. done (with_buffer buffer r))
then_concludes_in (Err fault, t, buffer) = done (Err fault, t, buffer)

abbrev pub opened_in : List ℕ → Result Opened Fault × Toggles → Process ConductedIn
opened_in buffer (Ok o, t) = bind (fetches_data (packet_count (length buffer)) 0 o.tag t buffer) then_concludes_in
opened_in buffer (Err fault, t) = done (Err fault, t, buffer)

abbrev pub conducts_in : (tag : ℕ) → Command → Toggles → List ℕ → Process ConductedIn
conducts_in tag k t buffer = bind (opens tag (length buffer) DataIn k t) (opened_in buffer)

-- a capacity that no store has is a wrong reply
abbrev pub size_told : (tag : ℕ) → Option ℕ → Result (Outcome ℕ) Fault
size_told tag (Some n) = Ok (Ok n)
size_told tag None = Err (tagged wrong_reply tag)

abbrev pub capacity_ended : (tag : ℕ) → ConductedIn → Result (Outcome ℕ) Fault × Toggles
capacity_ended tag (Ok (Ok _), t, buffer) = (size_told tag (capacity_of buffer), t)
capacity_ended tag (Ok (Err failure), t, buffer) = (Ok (Err failure), t)
capacity_ended tag (Err fault, t, buffer) = (Err fault, t)

-- the four commands
abbrev pub tests : (tag : ℕ) → Toggles → Process Concluded
tests tag t = conducts tag Test t

abbrev pub asks_capacity : (tag : ℕ) → Toggles → Process (Result (Outcome ℕ) Fault × Toggles)
asks_capacity tag t = bind (conducts_in tag Capacity t (replicate 8 0)) (λ r. done (capacity_ended tag r))

abbrev pub reads : (tag sector count : ℕ) → Toggles → List ℕ → Process ConductedIn
reads tag sector count t buffer = conducts_in tag (Read sector count) t buffer

abbrev pub writes : (tag sector count : ℕ) → List ℕ → Toggles → Process Concluded
writes tag sector count bytes t = conducts_out tag (Write sector count) bytes t

-- tags rise by one with each command; after FFFFFFFFh comes 0
abbrev pub tag_after : ℕ → ℕ
tag_after tag = (tag + 1) % 2 ^ 32
