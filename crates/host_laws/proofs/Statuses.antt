-- A status is heard as it was made, or three packets at least were spoiled.
use Rattle.std.proofs.Common.{◌≡◌, ℕ, ◌+◌, ◌^◌, ◌<◌, ◌≤◌, true, false, List, Ok, Err, Result, sym, refl, subst, arith, None}
use Rattle.packet.specs.declared.kind.DataKind.{DataKind}
use Rattle.packet.specs.declared.kind.TokenKind.TheVariants.{In}
use Rattle.packet.specs.Parts.{token}
use Rattle.reader.specs.declared.state.Expectation.TheVariants.{Nothing, BulkAck}
use Rattle.reader.specs.declared.state.Halts.TheVariants.{Each}
use Rattle.reader.specs.declared.state.Transfer.{Transfer}
use Rattle.reader.specs.BulkEnds.{turned}
use Rattle.reader.specs.Disk.{Disk}
use Rattle.reader.specs.State.{State, command, status}
use Rattle.transport.specs.declared.refusals.TransportRefusal.{TransportRefusal}
use Rattle.transport.specs.declared.statuses.StatusBlock.{StatusBlock}
use Rattle.transport.specs.Statuses.{status_bytes, status_read}
use Rattle.transport.proofs.StatusRoundTrip.{reading_a_built_status_block_returns_it}
use Rattle.transport.specs.declared.blocks.DataDirection.TheVariants.{In as DataIn}
use Rattle.transport.specs.Toggles.{toggle_turned}
use Rattle.host.specs.declared.command.DataOver.{DataOver}
use Rattle.host.specs.declared.fault.Cause.TheVariants.{Nothing as NoAnswer}
use Rattle.host.specs.declared.fault.Fault.{Fault}
use Rattle.transport.specs.declared.toggles.Toggles.{Toggles}
use Rattle.host.specs.Commands.{Concluded, concludes, concludes_now, status_fetched, status_again, status_heard, in_command}
use Rattle.host.specs.Process.{World, Process, Runs, bind}
use Rattle.host.specs.Transactions.{Ending}
use Rattle.host.specs.Tries.{fetches}
use Rattle.host.specs.Transfers.{clears}
use Rattle.host_laws.specs.Fetches.{Waiting, Waits, level, level_sent, behind, Fetched, ended, unended, Fetches, fetched, given_up}
use Rattle.host_laws.specs.InStep.{attached, at_address_1, bulk_at, InStep, awaiting, unacknowledged}
use Rattle.host_laws.specs.Stages.{with_status, level as status-level, behind as status-behind, Concluding, concluded, given_up as concluding-given-up, AStatusIsHeardOrIsPaidFor}
use Rattle.host_laws.proofs.Attached.{was_attached, attached_whatever_is_expected}
use Rattle.host_laws.proofs.Chains.{halfway, stays}
use Rattle.host_laws.proofs.Fetches.{failed_fetches_are_paid_for}
use Rattle.host.proofs.Toggles.{turned_twice}

read_back : (o : DataOver) (b : StatusBlock) → b.tag ≡ o.tag → o.tag < 2 ^ 32 → b.residue ≤ o.length → o.length < 2 ^ 32 → status_read (status_bytes b) o.tag o.length ≡ Ok b
read_back o b same narrow less short =
    subst (λ n. status_read (status_bytes b) n o.length ≡ Ok b) same
    (reading_a_built_status_block_returns_it b o.length (record { narrow_tag = omega arith; narrow_residue = omega arith; small_residue = less }))

module _ (o : DataOver) (b : StatusBlock) (t : Toggles) (d : Disk) (start : ℕ) (x : Transfer) where
  -- the status once it has been sent, and when it is acknowledged
  abbrev sent_status : State
  sent_status = attached x (bulk_at t.data_in t.data_out (Each false false) (status b true)) Nothing

  abbrev waiting_status : Waiting (token In 1 1) t.data_in d
  waiting_status = record {
    unsent = with_status x t b;
    sent = sent_status;
    acknowledged = attached x (bulk_at (turned t.data_in) t.data_out (Each false false) command) Nothing;
    owed = BulkAck;
    body = status_bytes b;
    offers = λ e. refl;
    offers_again = λ e. refl;
    ends = refl;
  }

  still_attached : (n later : ℕ) (w : World) → Waits waiting_status n later w → (fault : Fault) (t' : Toggles) → start + 3 ≤ n → Concluding o b t d start (Err fault, t') w
  still_attached n later w (level e) fault t' h = concluding-given-up n _ fault t' (at_address_1 x _ e) h
  still_attached n later w (level_sent e) fault t' h = concluding-given-up n _ fault t' (at_address_1 x _ e) h
  still_attached n later w (behind k e) fault t' h = concluding-given-up n _ fault t' (attached_whatever_is_expected e (was_attached k.old x _ Nothing k.follows)) h

  -- a status that was fetched leaves the ends in step, whether its ACK came through or not
  in_step_again : (n later : ℕ) (w : World) → Fetched waiting_status n later w → start ≤ n → Concluding o b t d start (in_command o.tag (status_heard o.whole (Ok b)), toggle_turned DataIn t) w
  in_step_again n later w (ended e) h = concluded n _ h (awaiting x e)
  in_step_again n later w (unended e) h =
      concluded n _ h
      (subst (λ (k : DataKind). InStep (toggle_turned DataIn t) (attached x (bulk_at k t.data_out (Each false false) (status b true)) e)) (turned_twice t.data_in) (unacknowledged x e b))

  concluding : (met_stall : Process Concluded) (from pending : ℕ) → start + pending ≤ from → status_read (status_bytes b) o.tag o.length ≡ Ok b
      → (e : Ending (List ℕ)) (w : World) → Fetches waiting_status 3 from pending e w → (r : Concluded) (w' : World) → Runs (status_fetched o t met_stall e) w r w' → Concluding o b t d start r w'
  concluding met_stall from pending paid reads e w (fetched n later u f since h) r w' runs =
      stays (Concluding o b t d start) _ u r w' runs
      (subst (λ (y : Result StatusBlock TransportRefusal). Concluding o b t d start (in_command o.tag (status_heard o.whole y), toggle_turned DataIn t) u) (sym reads) (in_step_again n later u f (omega arith)))
  concluding met_stall from pending paid reads e w (given_up n later cause u k since h) r w' runs =
      stays (Concluding o b t d start) _ u r w' runs (still_attached n later u k _ t (omega arith))

  runs_to_concluding : (from pending : ℕ) → start + pending ≤ from → status_read (status_bytes b) o.tag o.length ≡ Ok b
      → (w : World) → Waits waiting_status from pending w → (r : Concluded) (w' : World) → Runs (concludes o t) w r w' → Concluding o b t d start r w'
  runs_to_concluding from pending paid reads w waits r w' runs =
      let met_stall : Process Concluded = bind (clears DataIn t) (status_again o.tag (concludes_now o)) in
      let h = halfway (fetches 3 (token In 1 1) t.data_in None NoAnswer) (status_fetched o t met_stall) w r w' runs in
      concluding met_stall from pending paid reads h.result h.between
      (failed_fetches_are_paid_for In 1 1 t.data_in d waiting_status None refl 3 NoAnswer from pending w waits h.result h.between h.first)
      r w' h.second

pub a_status_is_heard_or_is_paid_for : AStatusIsHeardOrIsPaidFor
a_status_is_heard_or_is_paid_for o b t d start w (status-level from x e paid) same narrow less short r w' runs =
    runs_to_concluding o b t d start x from 0 (omega arith) (read_back o b same narrow less short) w (level e) r w' runs
a_status_is_heard_or_is_paid_for o b t d start w (status-behind from x e old follows at paid) same narrow less short r w' runs =
    runs_to_concluding o b t d start x from 1 (omega arith) (read_back o b same narrow less short) w (behind (record { old = old; follows = follows }) e) r w' runs
