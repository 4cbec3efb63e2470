-- The stages of a command, over ends that are in step: its block, and its status.
use Rattle.std.specs.Prelude.{◌≡◌, ℕ, ◌+◌, ◌^◌, ◌<◌, ◌≤◌, false, Some, Ok, Err, Result}
use Rattle.packet.specs.declared.kind.TokenKind.TheVariants.{In}
use Rattle.packet.specs.Parts.{token}
use Rattle.reader.specs.declared.state.Expectation.{Expectation}
use Rattle.reader.specs.declared.state.Expectation.TheVariants.{Nothing}
use Rattle.reader.specs.declared.state.Halts.TheVariants.{Each}
use Rattle.reader.specs.declared.state.Transfer.{Transfer}
use Rattle.reader.specs.BulkEnds.{turned}
use Rattle.reader.specs.Control.{expecting}
use Rattle.reader.specs.Disk.{Disk}
use Rattle.reader.specs.Stages.{begin, plan_of}
use Rattle.reader.specs.State.{State, Bulk, status}
use Rattle.transport.specs.declared.blocks.DataDirection.{DataDirection}
use Rattle.transport.specs.declared.commands.Command.{Command}
use Rattle.transport.specs.declared.statuses.StatusBlock.{StatusBlock}
use Rattle.transport.specs.Promises.{CommandFits}
use Rattle.transport.specs.declared.blocks.DataDirection.TheVariants.{In as DataIn, Out as DataOut}
use Rattle.transport.specs.Toggles.{toggle_turned}
use Rattle.host.specs.declared.command.DataOver.{DataOver}
use Rattle.host.specs.declared.command.Opened.{Opened}
use Rattle.host.specs.declared.fault.Fault.{Fault}
use Rattle.transport.specs.declared.toggles.Toggles.{Toggles}
use Rattle.host.specs.Commands.{Concluded, block_of, open_command, opens, concludes, in_command, status_heard}
use Rattle.host.specs.Process.{World, Runs}
use Rattle.host_laws.specs.Deliveries.{world}
use Rattle.host_laws.specs.Fetches.{Waiting}
use Rattle.host_laws.specs.InStep.{attached, Attached, bulk_at, InStep}

-- the bulk endpoints when the reader has taken a block
abbrev pub begun_with : (tag moves : ℕ) → DataDirection → Command → Toggles → Disk → Bulk
begun_with tag moves way k t d = begin (record { data_in = t.data_in; data_out = turned t.data_out }) (Each false false) (block_of tag moves way k) (plan_of (Some k) d.size)

pub data Opening (tag moves : ℕ) (way : DataDirection) (k : Command) (t : Toggles) (d : Disk) (from : ℕ) : Result Opened Fault × Toggles → World → Type 0 where
  taken : (n : ℕ) (x : Transfer) (e : Expectation) → from ≤ n → Opening tag moves way k t d from (Ok (open_command tag moves), toggle_turned DataOut t) (world n (attached x (begun_with tag moves way k t d) e) d)
  given_up : (n : ℕ) (s : State) (fault : Fault) → Attached s → from + 3 ≤ n → Opening tag moves way k t d from (Err fault, t) (world n s d)

abbrev pub ABlockIsTakenOrIsPaidFor : Type 0
ABlockIsTakenOrIsPaidFor =
    (tag moves : ℕ) (way : DataDirection) (k : Command) (t : Toggles) (s : State) (d : Disk) (from : ℕ) → tag < 2 ^ 32 → moves < 2 ^ 32 → CommandFits k → InStep t s
    → (r : Result Opened Fault × Toggles) (w' : World) → Runs (opens tag moves way k t) (world from s d) r w' → Opening tag moves way k t d from r w'

-- the reader with a status that waits and has not been sent
abbrev pub with_status : Transfer → Toggles → StatusBlock → State
with_status x t b = attached x (bulk_at t.data_in t.data_out (Each false false) (status b false)) Nothing

-- a status waits; or the last packet of data, whose ACK was spoiled since the start, still does in its place
pub data StatusWaits (t : Toggles) (b : StatusBlock) (d : Disk) (start : ℕ) : World → Type 0 where
  level : (from : ℕ) (x : Transfer) (e : Expectation) → start ≤ from → StatusWaits t b d start (world from (expecting e (with_status x t b)) d)
  behind : (from : ℕ) (x : Transfer) (e : Expectation) (old : Waiting (token In 1 1) (turned t.data_in) d) → old.acknowledged ≡ with_status x t b → Attached old.sent → start + 1 ≤ from → StatusWaits t b d start (world from (expecting e old.sent) d)

pub data Concluding (o : DataOver) (b : StatusBlock) (t : Toggles) (d : Disk) (start : ℕ) : Concluded → World → Type 0 where
  concluded : (n : ℕ) (s : State) → start ≤ n → InStep (toggle_turned DataIn t) s → Concluding o b t d start (in_command o.tag (status_heard o.whole (Ok b)), toggle_turned DataIn t) (world n s d)
  given_up : (n : ℕ) (s : State) (fault : Fault) (t' : Toggles) → Attached s → start + 3 ≤ n → Concluding o b t d start (Err fault, t') (world n s d)

abbrev pub AStatusIsHeardOrIsPaidFor : Type 0
AStatusIsHeardOrIsPaidFor =
    (o : DataOver) (b : StatusBlock) (t : Toggles) (d : Disk) (start : ℕ) (w : World) → StatusWaits t b d start w
    → b.tag ≡ o.tag → o.tag < 2 ^ 32 → b.residue ≤ o.length → o.length < 2 ^ 32
    → (r : Concluded) (w' : World) → Runs (concludes o t) w r w' → Concluding o b t d start r w'
