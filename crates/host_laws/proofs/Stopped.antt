-- Data to the host that a halt stops: the halt is cleared, and the status waits; or three packets at least were spoiled.
use Rattle.std.proofs.Common.{ℕ, suc, ◌+◌, ◌≤◌, true, false, List, length, Ok, Err, refl, arith, Some}
use Rattle.packet.specs.declared.kind.DataKind.TheVariants.{Data0}
use Rattle.packet.specs.declared.kind.TokenKind.TheVariants.{In}
use Rattle.packet.specs.Parts.{token}
use Rattle.reader.specs.declared.state.Expectation.{Expectation}
use Rattle.reader.specs.declared.state.Expectation.TheVariants.{Nothing}
use Rattle.reader.specs.declared.state.Halts.TheVariants.{Each}
use Rattle.reader.specs.declared.state.Transfer.{Transfer}
use Rattle.reader.specs.Disk.{Disk}
use Rattle.reader.specs.State.{State, Bulk, status}
use Rattle.transport.specs.declared.statuses.StatusBlock.{StatusBlock}
use Rattle.transport.specs.declared.blocks.DataDirection.TheVariants.{In as DataIn}
use Rattle.transport.specs.Toggles.{toggle_freshened, toggle_turned}
use Rattle.host.specs.declared.fault.Cause.TheVariants.{Nothing as NoAnswer}
use Rattle.host.specs.declared.fault.Fault.{Fault}
use Rattle.transport.specs.declared.toggles.Toggles.{Toggles}
use Rattle.host.specs.Commands.{FetchedData, data_over, data_fetched, fetch_stopped, fetches_data, packet_size}
use Rattle.host.specs.Process.{World, Process, Runs, done}
use Rattle.host.specs.Transactions.{Ending}
use Rattle.host.specs.Tries.{fetches}
use Rattle.host.specs.Transfers.{Transferred, transfers, clear_setup, cleared, clears}
use Rattle.host_laws.specs.Deliveries.{world}
use Rattle.host_laws.specs.Fetches.{Halted, Unfetched, met_stall, given_up as fetch-given-up}
use Rattle.host_laws.specs.InStep.{attached, Attached, at_address_1, bulk_at}
use Rattle.host_laws.specs.Stages.{StatusWaits, level}
use Rattle.host_laws.specs.Transfers.{Changed, changed, given_up as transfer-given-up}
use Rattle.host_laws.proofs.Chains.{halfway, stays}
use Rattle.host_laws.proofs.Fetches.{a_halted_endpoint_sends_nothing}
use Rattle.host_laws.proofs.Recovering.{clearing_inward}
use Rattle.host_laws.proofs.Transfers.{a_control_transfer_is_done_or_paid_for}

-- the endpoint is halted, and a status waits behind the halt
abbrev pub halted_before : Toggles → StatusBlock → Bulk
halted_before t b = bulk_at t.data_in t.data_out (Each true false) (status b false)

abbrev freed : Toggles → StatusBlock → Bulk
freed t b = bulk_at Data0 t.data_out (Each false false) (status b false)

module _ (tag : ℕ) (b : StatusBlock) (d : Disk) (start : ℕ) (t : Toggles) where
  pub data Stopped (buffer : List ℕ) : FetchedData → World → Type 0 where
    stopped : (w : World) → StatusWaits (toggle_freshened DataIn t) b d start w → Stopped buffer (Ok (data_over tag (length buffer) false), toggle_freshened DataIn t, buffer) w
    given_up : (n : ℕ) (s : State) (fault : Fault) → Attached s → start + 3 ≤ n → Stopped buffer (Err fault, t, buffer) (world n s d)

  abbrev halt : Transfer → Halted (token In 1 1) d
  halt x = record { halted = attached x (halted_before t b) Nothing; refuses = λ e. refl }

  clearing_ends : (buffer : List ℕ) (from : ℕ) → start ≤ from → (r : Transferred) (w : World) → Changed (halted_before t b) (freed t b) d from r w → Stopped buffer (fetch_stopped tag (length buffer) buffer (cleared DataIn t r)) w
  clearing_ends buffer from l r w (changed n x e h) = stopped w (level n x e (omega arith))
  clearing_ends buffer from l r w (transfer-given-up n x e b'' fault which h) = given_up n _ _ (at_address_1 x b'' e) (omega arith)

  fetch_ends : (x : Transfer) (buffer : List ℕ) (from : ℕ) → start ≤ from → (e : Ending (List ℕ)) (w : World) → Unfetched (halt x) 3 from e w
      → (next : List ℕ → Process FetchedData) (r : FetchedData) (w' : World) → Runs (data_fetched 0 tag t buffer next e) w r w' → Stopped buffer r w'
  fetch_ends x buffer from l e w (met_stall n y h) next r w' runs =
      let outer = halfway (clears DataIn t) (λ c. done (fetch_stopped tag (length buffer) buffer c)) w r w' runs in
      let inner = halfway (transfers 1 (clear_setup DataIn)) (λ c. done (cleared DataIn t c)) w outer.result outer.between outer.first in
      stays (Stopped buffer) _ outer.between r w' outer.second
      (stays (λ c. Stopped buffer (fetch_stopped tag (length buffer) buffer c)) (cleared DataIn t inner.result) inner.between outer.result outer.between inner.second
      (clearing_ends buffer n (omega arith) inner.result inner.between
      (a_control_transfer_is_done_or_paid_for (clear_setup DataIn) (halted_before t b) (freed t b) (clearing_inward t.data_in t.data_out true false (status b false)) d n x y inner.result inner.between inner.first)))
  fetch_ends x buffer from l e w (fetch-given-up n cause y h) next r w' runs = stays (Stopped buffer) _ w r w' runs (given_up n _ _ (at_address_1 x (halted_before t b) y) (omega arith))

  pub data_stop : (packets : ℕ) (buffer : List ℕ) (from : ℕ) (x : Transfer) (e : Expectation) → start ≤ from
      → (r : FetchedData) (w' : World) → Runs (fetches_data (suc packets) 0 tag t buffer) (world from (attached x (halted_before t b) e) d) r w' → Stopped buffer r w'
  data_stop packets buffer from x e l r w' runs =
      let next : List ℕ → Process FetchedData = fetches_data packets (0 + 1) tag (toggle_turned DataIn t) in
      let fit = Some (packet_size (length buffer) 0) in
      let h = halfway (fetches 3 (token In 1 1) t.data_in fit NoAnswer) (data_fetched 0 tag t buffer next) (world from (attached x (halted_before t b) e) d) r w' runs in
      fetch_ends x buffer from l h.result h.between (a_halted_endpoint_sends_nothing In 1 1 t.data_in d (halt x) fit 3 NoAnswer from e h.result h.between h.first) next r w' h.second
