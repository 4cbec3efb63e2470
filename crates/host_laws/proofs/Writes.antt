-- A write puts its sectors, or fails or is given up with the first of them put, and giving up is paid for by spoiled
-- packets.
use Rattle.std.proofs.Common.{◌≡◌, ℕ, suc, ◌+◌, ◌-◌, ◌*◌, ◌^◌, ◌<◌, ◌≤◌, Bool, true, false, eqb, ltb, leb, List, length, take, drop, Result, sym, refl, subst, inl, inr, add-zero, arith}
use Rattle.std.proofs.lemmas.Bool.{le-leb, lt-leb, lt-ltb, ne_eqb, cases_lt}
use Rattle.reader.specs.declared.state.Expectation.{Expectation}
use Rattle.reader.specs.declared.state.Halts.TheVariants.{Each}
use Rattle.reader.specs.declared.state.Transfer.{Transfer}
use Rattle.reader.specs.BulkEnds.{turned}
use Rattle.reader.specs.Disk.{Disk}
use Rattle.reader.specs.State.{Bulk, data_out, status}
use Rattle.transport.specs.declared.blocks.DataDirection.TheVariants.{Out as DataOut, In as DataIn}
use Rattle.transport.specs.declared.commands.Command.TheVariants.{Write}
use Rattle.transport.specs.Toggles.{toggle_turned}
use Rattle.host.specs.declared.command.DataOver.{DataOver}
use Rattle.host.specs.declared.command.Opened.{Opened}
use Rattle.host.specs.declared.fault.Fault.{Fault}
use Rattle.transport.specs.declared.toggles.Toggles.{Toggles}
use Rattle.host.specs.Commands.{Concluded, packet_count, data_over, opens, opened_out, delivers_data, then_concludes}
use Rattle.host.specs.Process.{World, Runs}
use Rattle.host_laws.specs.Commands.{Put, WhyFailed, past_the_size, HasWritten, passed, failed, given_up, AWritePutsItsSectorsOrIsPaidFor}
use Rattle.host_laws.specs.Deliveries.{world}
use Rattle.host_laws.specs.InStep.{attached, bulk_at}
use Rattle.host_laws.specs.Stages.{begun_with, Opening, taken, given_up as unopened, level, Concluding, concluded, given_up as unconcluded}
use Rattle.host_laws.proofs.Blocks.{a_block_is_taken_or_is_paid_for}
use Rattle.host_laws.proofs.Chains.{halfway}
use Rattle.host_laws.proofs.Outgoing.{Standing, receiving, refusing, Sent, put, not_put, given_up as unsent, passed_status, failed_status, data_are_sent_or_paid_for}
use Rattle.host_laws.proofs.Putting.{put_none}
use Rattle.host_laws.proofs.Statuses.{a_status_is_heard_or_is_paid_for}

module _ (tag sector count : ℕ) (bytes : List ℕ) (d : Disk) (some : 1 ≤ count) (size : length bytes ≡ count * 512) where
  -- a write inside the disk begins with its data, and one that reaches past the size fails
  begins : (t : Toggles) (p : ℕ) → suc p ≡ count * 8 → sector + count ≤ d.size
      → begun_with tag (length bytes) DataOut (Write sector count) t d ≡ bulk_at t.data_in (turned t.data_out) (Each false false) (data_out tag (suc p * 64) (suc p * 64) (sector + 0) (take (0 * 64) (drop (0 * 512) bytes)))
  begins t p packets fits =
      let inside : leb (sector + count) d.size ≡ true = le-leb _ _ fits in
      let not_none : eqb count 0 ≡ false = ne_eqb _ _ (λ e. omega arith) in
      let room : leb (count * 512) (count * 512) ≡ true = le-leb _ _ (omega arith) in
      let all : suc p * 64 ≡ count * 512 = omega arith in
      rw (size, inside, not_none, room, all, add-zero)

  fails_at_once : (t : Toggles) → d.size < sector + count
      → begun_with tag (length bytes) DataOut (Write sector count) t d ≡ bulk_at t.data_in (turned t.data_out) (Each false true) (status (failed_status tag (count * 512)) false)
  fails_at_once t past =
      let outside : leb (sector + count) d.size ≡ false = lt-leb _ _ past in
      let due : ltb 0 (count * 512) ≡ true = lt-ltb _ _ (omega arith) in
      rw (size, outside, due)

  begun_stands : (t : Toggles) (n : ℕ) (x : Transfer) (e : Expectation) (p : ℕ) → suc p ≡ count * 8
      → Standing tag sector count bytes d (toggle_turned DataOut t) n 0 (suc p) (world n (attached x (begun_with tag (length bytes) DataOut (Write sector count) t d) e) d)
  begun_stands t n x e p packets =
      elim (cases_lt d.size (sector + count)) [
        | inl past ↦ subst (λ (b : Bulk). Standing tag sector count bytes d (toggle_turned DataOut t) n 0 (suc p) (world n (attached x b e) d)) (sym (fails_at_once t past))
            (refusing 0 (count * 512) x e d (omega arith) (put_none sector bytes d) (past_the_size refl past))
        | inr fits ↦ subst (λ (b : Bulk). Standing tag sector count bytes d (toggle_turned DataOut t) n 0 (suc p) (world n (attached x b e) d)) (sym (begins t p packets fits))
            (receiving 0 0 x e d (omega arith) refl (omega arith) fits (put_none sector bytes d))
      ]

  all_packets : packet_count (length bytes) ≡ suc (count * 8 - 1)
  all_packets = omega arith

  stands_at_the_first_packet : (t : Toggles) (n : ℕ) (x : Transfer) (e : Expectation)
      → Standing tag sector count bytes d (toggle_turned DataOut t) n 0 (packet_count (length bytes)) (world n (attached x (begun_with tag (length bytes) DataOut (Write sector count) t d) e) d)
  stands_at_the_first_packet t n x e = rw all_packets (begun_stands t n x e (count * 8 - 1) (omega arith))

  module _ (narrow : tag < 2 ^ 32) (most : count ≤ 128) where
    -- the status of data that were all put, and of data that were not
    hears_passed : (from n : ℕ) (t : Toggles) (d' : Disk) → from ≤ n → sector + count ≤ d.size → Put count sector bytes d d' → (r : Concluded) (w : World)
        → Concluding (data_over tag (length bytes) true) (passed_status tag) t d' n r w → HasWritten sector count bytes d from r w
    hears_passed from n t d' l fits holds r w (concluded m s h step) = passed m s (toggle_turned DataIn t) d' (omega arith) step fits holds
    hears_passed from n t d' l fits holds r w (unconcluded m s fault t' a h) = given_up m s fault t' d' count (omega arith) holds a (omega arith)

    hears_failed : (from n : ℕ) (t : Toggles) (d' : Disk) (k residue : ℕ) (whole : Bool) → from ≤ n → residue + k * 512 ≡ count * 512 → Put k sector bytes d d' → WhyFailed k sector count bytes d d' → (r : Concluded) (w : World)
        → Concluding (data_over tag (length bytes) whole) (failed_status tag residue) t d' n r w → HasWritten sector count bytes d from r w
    hears_failed from n t d' k residue whole l sum holds why r w (concluded m s h step) = failed m s (toggle_turned DataIn t) d' k residue (omega arith) step sum holds why
    hears_failed from n t d' k residue whole l sum holds why r w (unconcluded m s fault t' a h) = given_up m s fault t' d' k (omega arith) holds a (omega arith)

    sent_and_concluded : (from : ℕ) (q : Result DataOver Fault × Toggles) (u : World) → Sent tag sector count bytes d from q u → (r : Concluded) (w' : World) → Runs (then_concludes q) u r w' → HasWritten sector count bytes d from r w'
    sent_and_concluded from q u (put n t x e d' l fits holds) r w' run =
        hears_passed from n t d' l fits holds r w'
        (a_status_is_heard_or_is_paid_for (data_over tag (length bytes) true) (passed_status tag) t d' n u (level n x e (omega arith)) refl narrow (omega arith) (omega arith) r w' run)
    sent_and_concluded from q u (not_put n t x e d' k residue whole l sum holds why) r w' run =
        hears_failed from n t d' k residue whole l sum holds why r w'
        (a_status_is_heard_or_is_paid_for (data_over tag (length bytes) whole) (failed_status tag residue) t d' n u (level n x e (omega arith)) refl narrow (omega arith) (omega arith) r w' run)
    sent_and_concluded from q u (unsent n s fault t d' k l holds a h) r w' run = rw (← run.0, ← run.1) (given_up n s fault t d' k l holds a h)

    has_written_later : (from n : ℕ) (r : Concluded) (w : World) → from ≤ n → HasWritten sector count bytes d n r w → HasWritten sector count bytes d from r w
    has_written_later from n r w l (passed m s t d' h step fits holds) = passed m s t d' (omega arith) step fits holds
    has_written_later from n r w l (failed m s t d' k residue h step sum holds why) = failed m s t d' k residue (omega arith) step sum holds why
    has_written_later from n r w l (given_up m s fault t d' k h holds a b) = given_up m s fault t d' k h holds a (omega arith)

    opened_and_sent : (from : ℕ) (t : Toggles) (q : Result Opened Fault × Toggles) (u : World) → Opening tag (length bytes) DataOut (Write sector count) t d from q u → (r : Concluded) (w' : World) → Runs (opened_out bytes q) u r w' → HasWritten sector count bytes d from r w'
    opened_and_sent from t q u (taken n x e l) r w' run =
        let h = halfway (delivers_data (packet_count (length bytes)) 0 tag bytes (toggle_turned DataOut t)) then_concludes u r w' run in
        has_written_later from n r w' l
        (sent_and_concluded n h.result h.between
        (data_are_sent_or_paid_for tag sector count bytes d size (packet_count (length bytes)) 0 (toggle_turned DataOut t) n u (stands_at_the_first_packet t n x e) h.result h.between h.first)
        r w' h.second)
    opened_and_sent from t q u (unopened n s fault a l) r w' run = rw (← run.0, ← run.1) (given_up n s fault t d 0 (omega arith) (put_none sector bytes d) a l)

pub a_write_puts_its_sectors_or_is_paid_for : AWritePutsItsSectorsOrIsPaidFor
a_write_puts_its_sectors_or_is_paid_for tag sector count bytes t s d from narrow near some most size sound step r w' run =
    let h = halfway (opens tag (length bytes) DataOut (Write sector count) t) (opened_out bytes) (world from s d) r w' run in
    opened_and_sent tag sector count bytes d some size narrow most from t h.result h.between
    (a_block_is_taken_or_is_paid_for tag (length bytes) DataOut (Write sector count) t s d from narrow (omega arith) (near, omega arith) step h.result h.between h.first)
    r w' h.second
