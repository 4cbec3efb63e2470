-- The data of a command come in packet by packet, or three packets at least were spoiled.
use Rattle.std.proofs.Common.{◌≡◌, ℕ, zero, suc, ◌+◌, ◌-◌, ◌*◌, ◌<◌, ◌≤◌, min, true, false, eqb, List, length, take, Ok, Err, sym, refl, ap, ◌∙◌, subst, arith, Some}
use Rattle.std.proofs.lemmas.List.{take_all}
use Rattle.std.proofs.lemmas.Bool.{cond-false, eq-eqb, ne_eqb}
use Rattle.packet.specs.declared.kind.DataKind.{DataKind}
use Rattle.packet.specs.declared.kind.TokenKind.TheVariants.{In}
use Rattle.packet.specs.Parts.{token}
use Rattle.reader.specs.declared.phase.Source.{Source}
use Rattle.reader.specs.declared.state.Expectation.{Expectation}
use Rattle.reader.specs.declared.state.Expectation.TheVariants.{Nothing, BulkAck}
use Rattle.reader.specs.declared.state.Halts.TheVariants.{Each}
use Rattle.reader.specs.declared.state.Transfer.{Transfer}
use Rattle.reader.specs.BulkEnds.{turned}
use Rattle.reader.specs.Control.{expecting}
use Rattle.reader.specs.Disk.{Disk}
use Rattle.reader.specs.Stages.{source_bytes, waiting, sent_on, over}
use Rattle.reader.specs.State.{State, Bulk, data_in}
use Rattle.transport.specs.declared.blocks.DataDirection.TheVariants.{In as DataIn}
use Rattle.transport.specs.declared.statuses.Status.TheVariants.{Passed}
use Rattle.transport.specs.declared.statuses.StatusBlock.{StatusBlock}
use Rattle.transport.specs.Toggles.{toggle_turned}
use Rattle.host.specs.declared.fault.Cause.TheVariants.{Nothing as NoAnswer}
use Rattle.host.specs.declared.fault.Fault.{Fault}
use Rattle.transport.specs.declared.toggles.Toggles.{Toggles}
use Rattle.host.specs.Commands.{FetchedData, data_over, data_fetched, fetches_data, packet_size, packet_start, laid_at}
use Rattle.host.specs.Process.{World, Process, Runs}
use Rattle.host.specs.Transactions.{Ending}
use Rattle.host.specs.Tries.{fits, fetches}
use Rattle.host_laws.specs.Deliveries.{world}
use Rattle.host_laws.specs.Fetches.{Waiting, Waits, level as packet-level, level_sent as packet-sent, behind as packet-behind, Fetched, ended, unended, Fetches, fetched, given_up as packet-given-up}
use Rattle.host_laws.specs.InStep.{attached, Attached, at_address_1, bulk_at}
use Rattle.host_laws.specs.Stages.{StatusWaits, level as status-level, behind as status-behind}
use Rattle.host_laws.proofs.Attached.{was_attached, attached_whatever_is_expected}
use Rattle.host_laws.proofs.Buffers.{length_part, length_laid, the_front_grows}
use Rattle.host_laws.proofs.Chains.{halfway, stays}
use Rattle.host_laws.proofs.Fetches.{failed_fetches_are_paid_for}
use Rattle.host.proofs.Toggles.{turned_twice}

-- the status of a command all of whose data have moved
abbrev pub all_moved : ℕ → StatusBlock
all_moved tag = record { tag = tag; residue = 0; status = Passed }

module _ (tag : ℕ) (source : Source) (d : Disk) where
  -- a packet waits, with so many bytes left and so many moved
  abbrev in_data : Transfer → (sending receiving : DataKind) → (left moved : ℕ) → State
  in_data x sending receiving left moved = attached x (bulk_at sending receiving (Each false false) (data_in tag left left moved source)) Nothing

  -- a packet waits, or with no bytes left the status
  abbrev pub standing : Transfer → (sending receiving : DataKind) → (left moved : ℕ) → State
  standing x sending receiving left moved = attached x (sent_on (record { data_in = sending; data_out = receiving }) (Each false false) tag left left moved source) Nothing

  some_left : (x : Transfer) (sending receiving : DataKind) (left moved : ℕ) → 1 ≤ left → standing x sending receiving left moved ≡ in_data x sending receiving left moved
  some_left x sending receiving left moved some =
      ap (λ (b : Bulk). attached x b Nothing)
      (cond-false (eqb left 0) (over (record { data_in = sending; data_out = receiving }) (Each false false) DataIn tag left Passed) (bulk_at sending receiving (Each false false) (data_in tag left left moved source))
      (ne_eqb left 0 (λ e. omega arith)))

  abbrev packet_waiting : Transfer → (sending receiving : DataKind) → (left moved : ℕ) → Waiting (token In 1 1) sending d
  packet_waiting x sending receiving left moved = record {
    unsent = in_data x sending receiving left moved;
    sent = in_data x sending receiving left moved;
    acknowledged = standing x (turned sending) receiving (left - min 64 left) (moved + min 64 left);
    owed = BulkAck;
    body = waiting d left moved source;
    offers = λ e. refl;
    offers_again = λ e. refl;
    ends = refl;
  }

  -- the reader is level with what waits, or behind on the packet before it, whose ACK was spoiled since the start
  pub data DataWaits (start : ℕ) (t : Toggles) (left moved : ℕ) : World → Type 0 where
    level : (from : ℕ) (x : Transfer) (e : Expectation) → start ≤ from → DataWaits start t left moved (world from (expecting e (standing x t.data_in t.data_out left moved)) d)
    behind : (from : ℕ) (x : Transfer) (e : Expectation) (old : Waiting (token In 1 1) (turned t.data_in) d) → old.acknowledged ≡ standing x t.data_in t.data_out left moved → start + 1 ≤ from
        → DataWaits start t left moved (world from (expecting e old.sent) d)

  -- data have come whole, and the status waits; or they were given up
  pub data Incoming (start total : ℕ) : FetchedData → World → Type 0 where
    came : (t : Toggles) (buffer : List ℕ) (w : World) → buffer ≡ take total (source_bytes d source) → StatusWaits t (all_moved tag) d start w → Incoming start total (Ok (data_over tag total true), t, buffer) w
    given_up : (n : ℕ) (s : State) (fault : Fault) (t : Toggles) (buffer : List ℕ) → length buffer ≡ total → Attached s → start + 3 ≤ n → Incoming start total (Err fault, t, buffer) (world n s d)

  -- with no bytes left it is the status that waits
  status_waits : (start : ℕ) (t : Toggles) (moved : ℕ) (w : World) → DataWaits start t 0 moved w → StatusWaits t (all_moved tag) d start w
  status_waits start t moved w (level from x e h) = status-level from x e h
  status_waits start t moved w (behind from x e old follows h) = status-behind from x e old follows (was_attached old x _ Nothing follows) h

  -- with some left it is a packet
  pub record PacketWaits (start : ℕ) (t : Toggles) (left moved : ℕ) (w : World) : Type 0 where
    pub transfer : Transfer
    pub from : ℕ
    pub pending : ℕ
    pub paid : start + pending ≤ from
    pub waits : Waits (packet_waiting transfer t.data_in t.data_out left moved) from pending w

  packet_waits : (start : ℕ) (t : Toggles) (left moved : ℕ) → 1 ≤ left → (w : World) → DataWaits start t left moved w → PacketWaits start t left moved w
  packet_waits start t left moved some w (level from x e h) =
      subst (λ (s : State). PacketWaits start t left moved (world from (expecting e s) d)) (sym (some_left x t.data_in t.data_out left moved some))
      (record { transfer = x; from = from; pending = 0; paid = omega arith; waits = packet-level e })
  packet_waits start t left moved some w (behind from x e old follows h) =
      record { transfer = x; from = from; pending = 1; paid = h; waits = packet-behind (record { old = old; follows = follows ∙ some_left x t.data_in t.data_out left moved some }) e }

  -- the packet that has been fetched, as the one before the next
  abbrev AsOld : Transfer → (sending receiving : DataKind) → (left moved : ℕ) → DataKind → Type 0
  AsOld x sending receiving left moved kind =
      (old : Waiting (token In 1 1) kind d) × (old.acknowledged ≡ standing x (turned sending) receiving (left - min 64 left) (moved + min 64 left)) × (old.sent ≡ in_data x sending receiving left moved)

  as_old : (x : Transfer) (sending receiving : DataKind) (left moved : ℕ) → AsOld x sending receiving left moved (turned (turned sending))
  as_old x sending receiving left moved = subst (AsOld x sending receiving left moved) (sym (turned_twice sending)) (packet_waiting x sending receiving left moved, refl, refl)

  next_waits : (start : ℕ) (t : Toggles) (left moved : ℕ) (x : Transfer) (n later : ℕ) (u : World) → Fetched (packet_waiting x t.data_in t.data_out left moved) n later u → start + later ≤ n
      → DataWaits start (toggle_turned DataIn t) (left - min 64 left) (moved + min 64 left) u
  next_waits start t left moved x n later u (ended e) h = level n x e (omega arith)
  next_waits start t left moved x n later u (unended e) h =
      let q = as_old x t.data_in t.data_out left moved in
      subst (λ (s : State). DataWaits start (toggle_turned DataIn t) (left - min 64 left) (moved + min 64 left) (world n (expecting e s) d)) q.2 (behind n x e q.0 q.1 h)

  still_attached : (start total : ℕ) (t : Toggles) (left moved : ℕ) (x : Transfer) (n later : ℕ) (u : World) → Waits (packet_waiting x t.data_in t.data_out left moved) n later u
      → (fault : Fault) (buffer : List ℕ) → length buffer ≡ total → start + 3 ≤ n → Incoming start total (Err fault, t, buffer) u
  still_attached start total t left moved x n later u (packet-level e) fault buffer long h = given_up n _ fault t buffer long (at_address_1 x _ e) h
  still_attached start total t left moved x n later u (packet-sent e) fault buffer long h = given_up n _ fault t buffer long (at_address_1 x _ e) h
  still_attached start total t left moved x n later u (packet-behind k e) fault buffer long h = given_up n _ fault t buffer long (attached_whatever_is_expected e (was_attached k.old x _ Nothing k.follows)) h

  -- one packet has been fetched, and the others after it; or it was given up
  one_packet : (start total index : ℕ) (t : Toggles) (left moved : ℕ) (buffer : List ℕ) → length buffer ≡ total → (x : Transfer) (from pending : ℕ) → start + pending ≤ from
      → (e : Ending (List ℕ)) (u : World) → Fetches (packet_waiting x t.data_in t.data_out left moved) 3 from pending e u → (next : List ℕ → Process FetchedData) (r : FetchedData) (w' : World)
      → (DataWaits start (toggle_turned DataIn t) (left - min 64 left) (moved + min 64 left) u → Runs (next (laid_at (packet_start index) (waiting d left moved source) buffer)) u r w' → Incoming start total r w')
      → Runs (data_fetched index tag t buffer next e) u r w' → Incoming start total r w'
  one_packet start total index t left moved buffer long x from pending paid e u (fetched n later v f since h) next r w' goes_on runs = goes_on (next_waits start t left moved x n later u f (omega arith)) runs
  one_packet start total index t left moved buffer long x from pending paid e u (packet-given-up n later cause v k since h) next r w' goes_on runs =
      stays (Incoming start total) _ u r w' runs (still_attached start total t left moved x n later u k _ buffer long (omega arith))

  module _ (start total : ℕ) (enough : total ≤ length (source_bytes d source)) where
    -- so many packets are left, the next one has this place; the front of the buffer holds what has moved
    pub data_come_in : (packets index : ℕ) (t : Toggles) (left moved : ℕ) (buffer : List ℕ) → length buffer ≡ total → moved + left ≡ total → left ≤ packets * 64 → packets * 64 < left + 64 → (1 ≤ left → moved ≡ index * 64)
        → take moved buffer ≡ take moved (source_bytes d source) → (w : World) → DataWaits start t left moved w → (r : FetchedData) (w' : World) → Runs (fetches_data packets index tag t buffer) w r w' → Incoming start total r w'
    data_come_in zero index t left moved buffer long sum few many at front w waits r w' runs =
        let none : left ≡ 0 = omega arith in
        let all : moved ≡ total = omega arith in
        let whole : buffer ≡ take total (source_bytes d source) = sym (take_all total buffer (omega arith)) ∙ subst (λ n. take n buffer ≡ take n (source_bytes d source)) all front in
        stays (Incoming start total) _ w r w' runs
        (subst (λ n. Incoming start total (Ok (data_over tag n true), t, buffer) w) (sym long)
        (came t buffer w whole (status_waits start t moved w (subst (λ n. DataWaits start t n moved w) none waits))))
    data_come_in (suc p) index t left moved buffer long sum few many at front w waits r w' runs =
        let some : 1 ≤ left = omega arith in
        let place : moved ≡ index * 64 = at some in
        let size = min 64 left in
        let bytes = source_bytes d source in
        let body = waiting d left moved source in
        let long_body : length body ≡ size = length_part moved size bytes (omega arith) in
        let k = packet_waits start t left moved some w waits in
        let fitting : fits (Some (packet_size (length buffer) index)) body ≡ true = eq-eqb (length body) (packet_size (length buffer) index) (omega arith) in
        let laid = laid_at (index * 64) body buffer in
        let long_laid : length laid ≡ total = length_laid (index * 64) body buffer (omega arith) ∙ long in
        let front_laid : take (moved + size) laid ≡ take (moved + size) bytes =
        subst (λ n. take (moved + size) (laid_at n body buffer) ≡ take (moved + size) bytes) place (the_front_grows moved size bytes buffer (omega arith) (omega arith) front) in
        let next : List ℕ → Process FetchedData = fetches_data p (index + 1) tag (toggle_turned DataIn t) in
        let h = halfway (fetches 3 (token In 1 1) t.data_in (Some (packet_size (length buffer) index)) NoAnswer) (data_fetched index tag t buffer next) w r w' runs in
        one_packet start total index t left moved buffer long k.transfer k.from k.pending k.paid h.result h.between
        (failed_fetches_are_paid_for In 1 1 t.data_in d (packet_waiting k.transfer t.data_in t.data_out left moved) (Some (packet_size (length buffer) index)) fitting 3 NoAnswer k.from k.pending w k.waits h.result h.between h.first)
        next r w'
        (λ waits' runs'. data_come_in p (index + 1) (toggle_turned DataIn t) (left - size) (moved + size) laid long_laid (omega arith) (omega arith) (omega arith) (λ more. omega arith) front_laid h.between waits' r w' runs')
        h.second
