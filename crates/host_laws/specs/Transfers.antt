-- Control transfers over a reader at address 1, and attaching and recovering.
use Rattle.std.specs.Prelude.{◌≡◌, ℕ, ◌+◌, ◌≤◌, true, ◌⊎◌, List, length, Ok, Err, Result}
use Rattle.reader.specs.declared.state.Expectation.{Expectation}
use Rattle.reader.specs.declared.state.Request.{Request}
use Rattle.reader.specs.declared.state.Transfer.{Transfer}
use Rattle.reader.specs.declared.state.Transfer.TheVariants.{Asked, Answered}
use Rattle.reader.specs.Control.{begun, effect}
use Rattle.reader.specs.Disk.{Disk}
use Rattle.reader.specs.State.{State, Bulk}
use Rattle.transport.specs.Toggles.{both_fresh}
use Rattle.host.specs.declared.fault.Fault.{Fault}
use Rattle.host.specs.declared.fault.TransportFault.{TransportFault}
use Rattle.transport.specs.declared.toggles.Toggles.{Toggles}
use Rattle.host.specs.Process.{World, Runs}
use Rattle.host.specs.Transfers.{Transferred, transfers, attaches, recovers}
use Rattle.host_laws.specs.Deliveries.{world}
use Rattle.host_laws.specs.InStep.{attached, Attached, InStep}

-- a request that changes the bulk endpoints of a configured reader, and nothing else
pub record Changing (setup : List ℕ) (b b' : Bulk) : Type 0 where
  pub request : Request
  pub whole : length setup ≡ 8
  pub asks : begun true setup ≡ Asked request
  pub changes : (e : Expectation) → effect request (attached Answered b e) ≡ attached Answered b' e

-- it is done, with its effect; or it was given up, with three spoiled packets at least, and the effect has been or not
pub data Changed (b b' : Bulk) (d : Disk) (from : ℕ) : Transferred → World → Type 0 where
  changed : (n : ℕ) (x : Transfer) (e : Expectation) → from ≤ n → Changed b b' d from (Ok tt) (world n (attached x b' e) d)
  given_up : (n : ℕ) (x : Transfer) (e : Expectation) (b'' : Bulk) (fault : TransportFault) → (b'' ≡ b) ⊎ (b'' ≡ b') → from + 3 ≤ n → Changed b b' d from (Err fault) (world n (attached x b'' e) d)

abbrev pub AControlTransferIsDoneOrPaidFor : Type 0
AControlTransferIsDoneOrPaidFor =
    (setup : List ℕ) (b b' : Bulk) → Changing setup b b'
    → (d : Disk) (from : ℕ) (x : Transfer) (e : Expectation) (r : Transferred) (w' : World) → Runs (transfers 1 setup) (world from (attached x b e) d) r w' → Changed b b' d from r w'

-- attaching, from any reader: done with the ends in step and both toggles DATA0, or given up with three spoiled packets at
-- least; the disk is untouched
pub data Attaching (d : Disk) (from : ℕ) : Result (Unit {0}) Fault × Toggles → World → Type 0 where
  attached_now : (n : ℕ) (s : State) → from ≤ n → InStep both_fresh s → Attaching d from (Ok tt, both_fresh) (world n s d)
  given_up : (n : ℕ) (s : State) (fault : Fault) (t : Toggles) → from + 3 ≤ n → Attaching d from (Err fault, t) (world n s d)

abbrev pub AttachingPutsTheEndsInStep : Type 0
AttachingPutsTheEndsInStep =
    (t : Toggles) (s : State) (d : Disk) (from : ℕ) (r : Result (Unit {0}) Fault × Toggles) (w' : World) → Runs (attaches t) (world from s d) r w' → Attaching d from r w'

-- recovering, from any reader at address 1: the same, and the reader stays at its address
pub data Recovering (d : Disk) (from : ℕ) : Result (Unit {0}) Fault × Toggles → World → Type 0 where
  recovered : (n : ℕ) (s : State) → from ≤ n → InStep both_fresh s → Recovering d from (Ok tt, both_fresh) (world n s d)
  given_up : (n : ℕ) (s : State) (fault : Fault) (t : Toggles) → Attached s → from + 3 ≤ n → Recovering d from (Err fault, t) (world n s d)

abbrev pub RecoveringPutsTheEndsInStep : Type 0
RecoveringPutsTheEndsInStep =
    (t : Toggles) (s : State) (d : Disk) (from : ℕ) → Attached s
    → (r : Result (Unit {0}) Fault × Toggles) (w' : World) → Runs (recovers t) (world from s d) r w' → Recovering d from r w'
