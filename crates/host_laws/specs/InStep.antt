-- When the two ends of the link agree.
use Rattle.std.specs.Prelude.{◌≡◌, ℕ, ◌<◌, ◌≤◌, true, false, [], length, slice_index_or}
use Rattle.reader.specs.declared.state.Expectation.{Expectation}
use Rattle.reader.specs.declared.state.Halts.TheVariants.{Each}
use Rattle.reader.specs.declared.state.Transfer.{Transfer}
use Rattle.reader.specs.BulkEnds.{turned}
use Rattle.reader.specs.Disk.{Disk}
use Rattle.reader.specs.State.{State, Bulk, command, status}
pub use Rattle.host.specs.Deliveries.{attached, bulk_at}
use Rattle.transport.specs.declared.statuses.StatusBlock.{StatusBlock}
use Rattle.transport.specs.declared.toggles.Toggles.{Toggles}

pub data Attached : State → Type 0 where
  at_address_1 : (x : Transfer) (b : Bulk) (e : Expectation) → Attached (attached x b e)

-- the ends are in step: no halt, and either the toggles are equal and the reader awaits a block, or a status was sent and
-- has had no ACK, and only the toggles of the data to the host are opposite
pub data InStep (t : Toggles) : State → Type 0 where
  awaiting : (x : Transfer) (e : Expectation) → InStep t (attached x (bulk_at t.data_in t.data_out (Each false false) command) e)
  unacknowledged : (x : Transfer) (e : Expectation) (b : StatusBlock) → InStep t (attached x (bulk_at (turned t.data_in) t.data_out (Each false false) (status b true)) e)

-- what holds of the meaning of every store
pub record Sound (d : Disk) : Type 0 where
  pub some : 1 ≤ d.size
  pub most : d.size ≤ 65536
  pub count : length d.sectors ≡ d.size
  pub lengths : (i : ℕ) → i < d.size → length (slice_index_or d.sectors i []) ≡ 512
