-- A command whose data come in, once its block is taken: its data and its status.
use Rattle.std.proofs.Common.{◌≡◌, ℕ, ◌+◌, ◌^◌, ◌<◌, ◌≤◌, true, List, length, take, Ok, Err, refl, ap, ◌∙◌, arith}
use Rattle.std.proofs.lemmas.List.{length-take-le}
use Rattle.reader.specs.declared.phase.Source.{Source}
use Rattle.reader.specs.Disk.{Disk}
use Rattle.reader.specs.Stages.{source_bytes}
use Rattle.reader.specs.State.{State}
use Rattle.host.specs.declared.fault.Fault.{Fault}
use Rattle.transport.specs.declared.toggles.Toggles.{Toggles}
use Rattle.host.specs.Commands.{FetchedData, ConductedIn, Concluded, data_over, fetches_data, packet_count, concludes, then_concludes_in, with_buffer}
use Rattle.host.specs.Process.{World, Runs, done, bind}
use Rattle.host_laws.specs.Deliveries.{world}
use Rattle.host_laws.specs.InStep.{Attached, InStep}
use Rattle.host_laws.specs.Stages.{Concluding, concluded, given_up as concluding-given-up}
use Rattle.host_laws.proofs.Chains.{halfway, stays}
use Rattle.host_laws.proofs.Incoming.{all_moved, DataWaits, Incoming, came, given_up as incoming-given-up, data_come_in}
use Rattle.host_laws.proofs.Statuses.{a_status_is_heard_or_is_paid_for}

-- the buffer has the first bytes of the source, and the ends are in step; or the command was given up
pub data Brought (source : Source) (d : Disk) (start total : ℕ) : ConductedIn → World → Type 0 where
  brought : (n : ℕ) (s : State) (t : Toggles) (buffer : List ℕ) → start ≤ n → InStep t s → buffer ≡ take total (source_bytes d source) → Brought source d start total (Ok (Ok tt), t, buffer) (world n s d)
  given_up : (n : ℕ) (s : State) (fault : Fault) (t : Toggles) (buffer : List ℕ) → length buffer ≡ total → Attached s → start + 3 ≤ n → Brought source d start total (Err fault, t, buffer) (world n s d)

module _ (tag : ℕ) (source : Source) (d : Disk) (start total : ℕ) (enough : total ≤ length (source_bytes d source)) (narrow : tag < 2 ^ 32) (short : total < 2 ^ 32) where
  ends : (t : Toggles) (buffer : List ℕ) → buffer ≡ take total (source_bytes d source) → (c : Concluded) (w : World) → Concluding (data_over tag total true) (all_moved tag) t d start c w → Brought source d start total (with_buffer buffer c) w
  ends t buffer whole c w (concluded n s h in_step) = brought n s _ buffer h in_step whole
  ends t buffer whole c w (concluding-given-up n s fault t' at h) = given_up n s fault t' buffer (ap length whole ∙ length-take-le total (source_bytes d source) enough) at h

  goes_on : (o : FetchedData) (w : World) → Incoming tag source d start total o w → (r : ConductedIn) (w' : World) → Runs (then_concludes_in o) w r w' → Brought source d start total r w'
  goes_on o w (came t buffer u whole waits) r w' runs =
      let h = halfway (concludes (data_over tag total true) t) (λ c. done (with_buffer buffer c)) w r w' runs in
      stays (Brought source d start total) _ h.between r w' h.second
      (ends t buffer whole h.result h.between
      (a_status_is_heard_or_is_paid_for (data_over tag total true) (all_moved tag) t d start w waits refl narrow (omega arith) short h.result h.between h.first))
  goes_on o w (incoming-given-up n s fault t buffer long at h) r w' runs = stays (Brought source d start total) _ w r w' runs (given_up n s fault t buffer long at h)

  pub data_and_status : (t : Toggles) (buffer : List ℕ) → length buffer ≡ total → (w : World) → DataWaits tag source d start t total 0 w
      → (r : ConductedIn) (w' : World) → Runs (bind (fetches_data (packet_count (length buffer)) 0 tag t buffer) then_concludes_in) w r w' → Brought source d start total r w'
  data_and_status t buffer long w waits r w' runs =
      let h = halfway (fetches_data (packet_count (length buffer)) 0 tag t buffer) then_concludes_in w r w' runs in
      goes_on h.result h.between
      (data_come_in tag source d start total enough (packet_count (length buffer)) 0 t total 0 buffer long (omega arith) (omega arith) (omega arith) (λ some. refl) refl w waits h.result h.between h.first)
      r w' h.second
