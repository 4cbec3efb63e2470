-- A read has the bytes of its sectors, or fails because it reaches past the size; or three packets at least were spoiled.
use Rattle.std.proofs.Common.{◌≡◌, ℕ, suc, ◌+◌, ◌-◌, ◌*◌, ◌^◌, ◌<◌, ◌≤◌, true, false, cond, eqb, ltb, leb, List, length, drop, Ok, Err, Result, sym, refl, ap, ◌∙◌, subst, inl, inr, arith}
use Rattle.std.proofs.lemmas.Bool.{cond-true, cond-false, le-leb, lt-leb, lt-ltb, ne_eqb, cases_lt}
use Rattle.reader.specs.declared.phase.Source.TheVariants.{Sectors}
use Rattle.reader.specs.declared.state.Expectation.{Expectation}
use Rattle.reader.specs.declared.state.Halts.{Halts}
use Rattle.reader.specs.declared.state.Halts.TheVariants.{Each}
use Rattle.reader.specs.declared.state.Transfer.{Transfer}
use Rattle.reader.specs.BulkEnds.{turned}
use Rattle.reader.specs.Disk.{Disk}
use Rattle.reader.specs.Stages.{Plan, passes, fails, sends, begin, over, sent_on}
use Rattle.reader.specs.State.{Bulk, data_in, status}
use Rattle.transport.specs.declared.blocks.CommandBlock.{CommandBlock}
use Rattle.transport.specs.declared.blocks.DataDirection.TheVariants.{In as DataIn, Out as DataOut}
use Rattle.transport.specs.declared.commands.Command.TheVariants.{Read}
use Rattle.transport.specs.declared.statuses.Status.TheVariants.{Passed as StatusPassed, Failed as StatusFailed, PhaseError}
use Rattle.transport.specs.declared.statuses.StatusBlock.{StatusBlock}
use Rattle.transport.specs.Toggles.{toggle_freshened, toggle_turned}
use Rattle.host.specs.declared.command.Opened.{Opened}
use Rattle.host.specs.declared.fault.Fault.{Fault}
use Rattle.transport.specs.declared.toggles.Toggles.{Toggles}
use Rattle.host.specs.Commands.{command_failed, ConductedIn, Concluded, FetchedData, block_of, data_over, opens, opened_in, fetches_data, packet_count, concludes, then_concludes_in, with_buffer}
use Rattle.host.specs.Process.{World, Process, Runs, done, bind}
use Rattle.host_laws.specs.Commands.{HasRead, passed, failed, given_up, AReadHasTheSectorsOrIsPaidFor}
use Rattle.host_laws.specs.Deliveries.{world}
use Rattle.host_laws.specs.InStep.{attached, bulk_at, Sound}
use Rattle.host_laws.specs.Stages.{begun_with, Opening, taken, given_up as opening-given-up, Concluding, concluded, given_up as concluding-given-up}
use Rattle.host_laws.proofs.Blocks.{a_block_is_taken_or_is_paid_for}
use Rattle.host_laws.proofs.Chains.{halfway, stays}
use Rattle.host_laws.proofs.Incoming.{DataWaits, level}
use Rattle.host_laws.proofs.Inward.{Brought, brought, given_up as not-brought, data_and_status}
use Rattle.host_laws.proofs.Sectors.{front_of_sectors, whole_sectors, enough_sectors}
use Rattle.host_laws.proofs.Statuses.{a_status_is_heard_or_is_paid_for}
use Rattle.host_laws.proofs.Stopped.{halted_before, Stopped, stopped, given_up as stop-given-up, data_stop}

module _ (tag sector count : ℕ) (t : Toggles) (d : Disk) (moves : ℕ) (some : 1 ≤ count) (fits : moves ≡ count * 512) where
  abbrev toggles : Toggles
  toggles = record { data_in = t.data_in; data_out = turned t.data_out }

  abbrev block : CommandBlock
  block = block_of tag moves DataIn (Read sector count)

  abbrev plan : Plan
  plan = sends (Sectors sector) (count * 512)

  -- within the size its data wait
  begins : sector + count ≤ d.size → begun_with tag moves DataIn (Read sector count) t d ≡ sent_on toggles (Each false false) tag (count * 512) (count * 512) 0 (Sectors sector)
  begins inside =
      ap (begin toggles (Each false false) block) (cond-true (leb (sector + count) d.size) (cond (eqb count 0) passes plan) fails (le-leb _ _ inside) ∙ cond-false (eqb count 0) passes plan (ne_eqb count 0 (λ e. omega arith)))
      ∙ cond-true (leb (count * 512) moves) (bulk_at t.data_in (turned t.data_out) (Each false false) (data_in tag moves (count * 512) 0 (Sectors sector))) (over toggles (Each false false) DataIn tag moves PhaseError) (le-leb _ _ (omega arith))
      ∙ ap (λ n. bulk_at t.data_in (turned t.data_out) (Each false false) (data_in tag n (count * 512) 0 (Sectors sector))) fits
      ∙ sym (cond-false (eqb (count * 512) 0) (over toggles (Each false false) DataIn tag (count * 512) StatusPassed) (bulk_at t.data_in (turned t.data_out) (Each false false) (data_in tag (count * 512) (count * 512) 0 (Sectors sector))) (ne_eqb (count * 512) 0 (λ e. omega arith)))

  -- past the size it fails at once, and the endpoint halts
  abbrev its_failure : StatusBlock
  its_failure = record { tag = tag; residue = moves; status = StatusFailed }

  halts : d.size < sector + count → begun_with tag moves DataIn (Read sector count) t d ≡ halted_before (toggle_turned DataOut t) its_failure
  halts past =
      ap (begin toggles (Each false false) block) (cond-false (leb (sector + count) d.size) (cond (eqb count 0) passes plan) fails (lt-leb _ _ past))
      ∙ ap (λ (h : Halts). record { toggles = toggles; halts = h; phase = status its_failure false }) (cond-true (ltb 0 moves) (Each true false) (Each false false) (lt-ltb 0 moves (omega arith)))

module _ (tag sector count : ℕ) (t : Toggles) (buffer : List ℕ) (d : Disk) (from : ℕ) (narrow : tag < 2 ^ 32) (some : 1 ≤ count) (most : count ≤ 128) (long : length buffer ≡ count * 512) (sound : Sound d) where
  abbrev Rest : Toggles → Process ConductedIn
  Rest u = bind (fetches_data (packet_count (length buffer)) 0 tag u buffer) then_concludes_in

  -- within the size
  brings : (n : ℕ) → from ≤ n → sector + count ≤ d.size → (r : ConductedIn) (w : World) → Brought (Sectors sector) d n (count * 512) r w → HasRead sector count d from r w
  brings n l inside r w (brought m s t' bytes h in_step whole) =
      subst (λ (y : List ℕ). HasRead sector count d from (Ok (Ok tt), t', y) w) (sym (whole ∙ front_of_sectors count (drop sector d.sectors) (whole_sectors d sound sector))) (passed m s t' (omega arith) in_step inside)
  brings n l inside r w (not-brought m s fault t' bytes long' at h) = given_up m s fault t' bytes long' at (omega arith)

  reads_inside : (n : ℕ) (x : Transfer) (e : Expectation) → from ≤ n → sector + count ≤ d.size
      → (r : ConductedIn) (w' : World) → Runs (Rest (toggle_turned DataOut t)) (world n (attached x (begun_with tag (length buffer) DataIn (Read sector count) t d) e) d) r w' → HasRead sector count d from r w'
  reads_inside n x e l inside r w' runs =
      brings n l inside r w'
      (data_and_status tag (Sectors sector) d n (count * 512) (enough_sectors d sound sector count inside) narrow (omega arith) (toggle_turned DataOut t) buffer long _
      (subst (λ (b : Bulk). DataWaits tag (Sectors sector) d n (toggle_turned DataOut t) (count * 512) 0 (world n (attached x b e) d)) (sym (begins tag sector count t d (length buffer) some long inside)) (level n x e (omega arith)))
      r w' runs)

  -- past the size
  abbrev failure : StatusBlock
  failure = record { tag = tag; residue = length buffer; status = StatusFailed }

  fails_with : (u : Toggles) (n : ℕ) → from ≤ n → d.size < sector + count → (c : Concluded) (w : World) → Concluding (data_over tag (length buffer) false) failure u d n c w → HasRead sector count d from (with_buffer buffer c) w
  fails_with u n l past c w (concluded m s h in_step) =
      subst (λ k. HasRead sector count d from (Ok (Err (command_failed k)), toggle_turned DataIn u, buffer) w) (sym long) (failed m s (toggle_turned DataIn u) buffer (omega arith) in_step past)
  fails_with u n l past c w (concluding-given-up m s fault t' at h) = given_up m s fault t' buffer long at (omega arith)

  stop_ends : (u : Toggles) (n : ℕ) → from ≤ n → d.size < sector + count → (o : FetchedData) (w : World) → Stopped tag failure d n u buffer o w
      → (r : ConductedIn) (w' : World) → Runs (then_concludes_in o) w r w' → HasRead sector count d from r w'
  stop_ends u n l past o w (stopped v waits) r w' runs =
      let over = data_over tag (length buffer) false in
      let h = halfway (concludes over (toggle_freshened DataIn u)) (λ c. done (with_buffer buffer c)) w r w' runs in
      stays (HasRead sector count d from) _ h.between r w' h.second
      (fails_with (toggle_freshened DataIn u) n l past h.result h.between
      (a_status_is_heard_or_is_paid_for over failure (toggle_freshened DataIn u) d n w waits refl narrow (omega arith) (omega arith) h.result h.between h.first))
  stop_ends u n l past o w (stop-given-up m s fault at h) r w' runs = stays (HasRead sector count d from) _ w r w' runs (given_up m s fault u buffer long at (omega arith))

  reads_past : (n : ℕ) (x : Transfer) (e : Expectation) → from ≤ n → d.size < sector + count
      → (r : ConductedIn) (w' : World) → Runs (Rest (toggle_turned DataOut t)) (world n (attached x (begun_with tag (length buffer) DataIn (Read sector count) t d) e) d) r w' → HasRead sector count d from r w'
  reads_past n x e l past r w' runs =
      let u = toggle_turned DataOut t in
      let w = world n (attached x (halted_before u failure) e) d in
      let halted : Runs (Rest u) w r w' = subst (λ (b : Bulk). Runs (Rest u) (world n (attached x b e) d) r w') (halts tag sector count t d (length buffer) some long past) runs in
      let h = halfway (fetches_data (packet_count (length buffer)) 0 tag u buffer) then_concludes_in w r w' halted in
      let packets : packet_count (length buffer) ≡ suc (packet_count (length buffer) - 1) = omega arith in
      stop_ends u n l past h.result h.between
      (data_stop tag failure d n u (packet_count (length buffer) - 1) buffer n x e (omega arith) h.result h.between (subst (λ p. Runs (fetches_data p 0 tag u buffer) w h.result h.between) packets h.first))
      r w' h.second

  goes_on : (o : Result Opened Fault × Toggles) (w : World) → Opening tag (length buffer) DataIn (Read sector count) t d from o w
      → (r : ConductedIn) (w' : World) → Runs (opened_in buffer o) w r w' → HasRead sector count d from r w'
  goes_on o w (taken n x e h) r w' runs = elim (cases_lt d.size (sector + count)) [ inl past ↦ reads_past n x e h past r w' runs | inr inside ↦ reads_inside n x e h inside r w' runs ]
  goes_on o w (opening-given-up n s fault at h) r w' runs = stays (HasRead sector count d from) _ w r w' runs (given_up n s fault t buffer long at h)

pub a_read_has_the_sectors_or_is_paid_for : AReadHasTheSectorsOrIsPaidFor
a_read_has_the_sectors_or_is_paid_for tag sector count t buffer s d from narrow low some most long sound in_step r w' runs =
    let h = halfway (opens tag (length buffer) DataIn (Read sector count) t) (opened_in buffer) (world from s d) r w' runs in
    goes_on tag sector count t buffer d from narrow some most long sound h.result h.between
    (a_block_is_taken_or_is_paid_for tag (length buffer) DataIn (Read sector count) t s d from narrow (omega arith) (low, omega arith) in_step h.result h.between h.first)
    r w' h.second
