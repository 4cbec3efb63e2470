-- A test passes, or three packets at least were spoiled.
use Rattle.std.proofs.Common.{ℕ, ◌^◌, ◌<◌, ◌≤◌, true, Result, refl, arith}
use Rattle.reader.specs.Disk.{Disk}
use Rattle.transport.specs.declared.blocks.DataDirection.TheVariants.{Out as DataOut}
use Rattle.transport.specs.declared.commands.Command.TheVariants.{Test}
use Rattle.transport.specs.declared.statuses.Status.TheVariants.{Passed as StatusPassed}
use Rattle.transport.specs.declared.statuses.StatusBlock.{StatusBlock}
use Rattle.transport.specs.Toggles.{toggle_turned}
use Rattle.host.specs.declared.command.Opened.{Opened}
use Rattle.host.specs.declared.fault.Fault.{Fault}
use Rattle.transport.specs.declared.toggles.Toggles.{Toggles}
use Rattle.host.specs.Commands.{Concluded, data_over, opens, opened_without_data}
use Rattle.host.specs.Process.{World, Runs}
use Rattle.host_laws.specs.Commands.{Tested, passed, given_up, ATestPassesOrIsPaidFor}
use Rattle.host_laws.specs.Deliveries.{world}
use Rattle.host_laws.specs.Stages.{Opening, taken, given_up as opening-given-up, level, Concluding, concluded, given_up as concluding-given-up}
use Rattle.host_laws.proofs.Blocks.{a_block_is_taken_or_is_paid_for}
use Rattle.host_laws.proofs.Chains.{halfway, stays}
use Rattle.host_laws.proofs.Statuses.{a_status_is_heard_or_is_paid_for}

module _ (tag : ℕ) (t : Toggles) (d : Disk) (from : ℕ) (narrow : tag < 2 ^ 32) where
  abbrev its_status : StatusBlock
  its_status = record { tag = tag; residue = 0; status = StatusPassed }

  ends : (n : ℕ) → from ≤ n → (r : Concluded) (w : World) → Concluding (data_over tag 0 true) its_status (toggle_turned DataOut t) d n r w → Tested d from r w
  ends n h r w (concluded m s l in_step) = passed m s _ (omega arith) in_step
  ends n h r w (concluding-given-up m s fault t' at l) = given_up m s fault t' at (omega arith)

  goes_on : (o : Result Opened Fault × Toggles) (w : World) → Opening tag 0 DataOut Test t d from o w → (r : Concluded) (w' : World) → Runs (opened_without_data o) w r w' → Tested d from r w'
  goes_on o w (taken n x e h) r w' runs =
      ends n h r w' (a_status_is_heard_or_is_paid_for (data_over tag 0 true) its_status (toggle_turned DataOut t) d n w (level n x e (omega arith)) refl narrow (omega arith) (omega arith) r w' runs)
  goes_on o w (opening-given-up n s fault at h) r w' runs = stays (Tested d from) _ w r w' runs (given_up n s fault t at h)

pub a_test_passes_or_is_paid_for : ATestPassesOrIsPaidFor
a_test_passes_or_is_paid_for tag t s d from narrow sound in_step r w' runs =
    let h = halfway (opens tag 0 DataOut Test t) opened_without_data (world from s d) r w' runs in
    goes_on tag t d from narrow h.result h.between (a_block_is_taken_or_is_paid_for tag 0 DataOut Test t s d from narrow (omega arith) tt in_step h.result h.between h.first) r w' h.second
