-- The data of a write go out: each packet is taken in its place or refused, or the write is given up and paid for by
-- spoiled packets.
use Rattle.std.proofs.Common.{◌≡◌, ℕ, zero, suc, ◌+◌, ◌-◌, ◌*◌, ◌<◌, ◌≤◌, min, Bool, true, false, eqb, ltb, List, ◌++◌, length, take, drop, Some, None, Ok, Err, Result, sym, refl, ap, ◌∙◌, subst, inl, inr, arith, length-drop, length-take-le}
use Rattle.std.proofs.lemmas.Bool.{eq-eqb, ne_eqb, lt-ltb, cases_lt, cond-true, cond-false}
use Rattle.packet.specs.declared.kind.DataKind.{DataKind}
use Rattle.packet.specs.declared.kind.DataKind.TheVariants.{Data0}
use Rattle.packet.specs.declared.kind.TokenKind.TheVariants.{Out}
use Rattle.packet.specs.Parts.{token, data_packet}
use Rattle.reader.specs.declared.state.Expectation.{Expectation}
use Rattle.reader.specs.declared.state.Expectation.TheVariants.{Nothing, BulkData}
use Rattle.reader.specs.declared.state.Halts.{Halts}
use Rattle.reader.specs.declared.state.Halts.TheVariants.{Each}
use Rattle.reader.specs.declared.state.Transfer.{Transfer}
use Rattle.reader.specs.BulkEnds.{turned, taken_as}
use Rattle.reader.specs.Control.{expecting}
use Rattle.reader.specs.Disk.{Disk, Written}
use Rattle.reader.specs.Stages.{take_data, come_so_far, sector_answered, if_due}
use Rattle.reader.specs.State.{State, Bulk, Phase, data_out, status}
use Rattle.store.specs.declared.answers.Verdict.{Verdict}
use Rattle.store.specs.declared.answers.Verdict.TheVariants.{Taken, Locked, Full}
use Rattle.transport.specs.declared.blocks.DataDirection.TheVariants.{Out as DataOut}
use Rattle.transport.specs.declared.statuses.Status.TheVariants.{Passed, Failed}
use Rattle.transport.specs.declared.statuses.StatusBlock.{StatusBlock}
use Rattle.transport.specs.Toggles.{toggle_freshened, toggle_turned}
use Rattle.host.specs.declared.command.DataOver.{DataOver}
use Rattle.host.specs.declared.fault.Cause.TheVariants.{Nothing as NoAnswer}
use Rattle.host.specs.declared.fault.Fault.{Fault}
use Rattle.transport.specs.declared.toggles.Toggles.{Toggles}
use Rattle.host.specs.Commands.{data_over, data_delivered, data_stopped, delivers_data}
use Rattle.host.specs.Process.{World, Runs, done, bind, written_on}
use Rattle.host.specs.Transactions.{Ending}
use Rattle.host.specs.Tries.{delivers}
use Rattle.host.specs.Transfers.{Transferred, transfers, clears, cleared, clear_setup}
use Rattle.host_laws.specs.Commands.{Put, WhyFailed, not_taken}
use Rattle.host_laws.specs.Deliveries.{world, Taking, Between, before, begun_only, after, Delivered, taken_once, given_up as undelivered, Stalling, Refused, met_stall, given_up as unrefused}
use Rattle.host_laws.specs.InStep.{attached, Attached, at_address_1, bulk_at}
use Rattle.host_laws.specs.Stages.{with_status}
use Rattle.host_laws.specs.Transfers.{Changed, changed, given_up as unchanged}
use Rattle.host_laws.proofs.Chains.{halfway, stays}
use Rattle.host_laws.proofs.Deliveries.{failed_deliveries_are_paid_for, a_halted_endpoint_refuses_data}
use Rattle.host_laws.proofs.Putting.{sector_in, packet_in, put_next, packet_length, packet_goes_on}
use Rattle.host_laws.proofs.Recovering.{clearing_outward}
use Rattle.host.proofs.Toggles.{same_as_itself, not_as_turned}
use Rattle.host_laws.proofs.Transfers.{a_control_transfer_is_done_or_paid_for}

pub still_attached : (e : Expectation) (s : State) → Attached s → Attached (expecting e s)
still_attached e s (at_address_1 x b _) = at_address_1 x b e

-- a packet of data that the reader takes
abbrev taking : (kind : DataKind) (body : List ℕ) (d : Disk) (x : Transfer) (sending : DataKind) (tag due left sector : ℕ) (come : List ℕ) (h : Halts) (p : Phase) (written : Written)
    → take_data (record { data_in = sending; data_out = turned kind }) (Each false false) d tag due left sector come body ≡ (bulk_at sending (turned kind) h p, written)
    → Taking (token Out 1 2) kind body
taking kind body d x sending tag due left sector come h p written e = record {
  disk = d;
  untaken = attached x (bulk_at sending kind (Each false false) (data_out tag due left sector come)) Nothing;
  begun = attached x (bulk_at sending kind (Each false false) (data_out tag due left sector come)) Nothing;
  taken = attached x (bulk_at sending (turned kind) h p) Nothing;
  due = BulkData;
  written = written;
  token_heard = λ _. refl;
  token_again = λ _. refl;
  takes = cond-true _ _ _ (same_as_itself kind) ∙ ap (taken_as (attached x (bulk_at sending kind (Each false false) (data_out tag due left sector come)) BulkData)) e;
  token_after = λ _ _. refl;
  repeats = λ _. cond-false _ _ _ (not_as_turned kind);
}

-- a whole packet is taken, and so many packets are left
module _ (t : Toggles) (h : Halts) (d : Disk) (tag sector p : ℕ) (come body whole : List ℕ) (full : length body ≡ 64) (joins : come ++ body ≡ whole) where
  packet_fits : take_data t h d tag (suc p * 64) (suc p * 64) sector come body ≡ come_so_far t h d tag (p * 64) (p * 64) sector whole
  packet_fits =
      let awaited : eqb (length body) (min 64 (suc p * 64)) ≡ true = eq-eqb _ _ (omega arith) in
      let left : suc p * 64 - length body ≡ p * 64 = omega arith in
      rw (awaited, left, joins)

  sector_goes_on : (length whole ≡ 512 → ⊥) → take_data t h d tag (suc p * 64) (suc p * 64) sector come body ≡ (record { toggles = t; halts = h; phase = data_out tag (p * 64) (p * 64) sector whole }, None)
  sector_goes_on part = let goes_on : eqb (length whole) 512 ≡ false = ne_eqb _ _ part in packet_fits ∙ rw goes_on

  sector_is_whole : length whole ≡ 512 → sector < d.size → (v : Verdict) → d.verdict sector whole ≡ v → take_data t h d tag (suc p * 64) (suc p * 64) sector come body ≡ sector_answered t h tag (p * 64) (p * 64) sector whole (Ok v)
  sector_is_whole all inside v says =
      let ends : eqb (length whole) 512 ≡ true = eq-eqb _ _ all in
      let on_disk : ltb sector d.size ≡ true = lt-ltb _ _ inside in
      packet_fits ∙ rw (ends, on_disk, says)

-- the status of a write that has passed, and of one that has failed
abbrev pub passed_status : (tag : ℕ) → StatusBlock
passed_status tag = record { tag = tag; residue = 0; status = Passed }

abbrev pub failed_status : (tag residue : ℕ) → StatusBlock
failed_status tag residue = record { tag = tag; residue = residue; status = Failed }

module _ (tag first count : ℕ) (bytes : List ℕ) (d : Disk) where
  -- how the ends stand with so many packets left: the reader awaits a packet of a sector, with the sectors before it put;
  -- it refuses packets, for the write has failed; or none is left, and the write has passed or failed
  pub data Standing (t : Toggles) (from index : ℕ) : ℕ → World → Type 0 where
    receiving : {p : ℕ} (k j : ℕ) (x : Transfer) (e : Expectation) (d' : Disk) → j < 8 → index ≡ k * 8 + j → index + suc p ≡ count * 8 → first + count ≤ d.size → Put k first bytes d d'
        → Standing t from index (suc p) (world from (attached x (bulk_at t.data_in t.data_out (Each false false) (data_out tag (suc p * 64) (suc p * 64) (first + k) (take (j * 64) (drop (k * 512) bytes)))) e) d')
    refusing : {p : ℕ} (k residue : ℕ) (x : Transfer) (e : Expectation) (d' : Disk) → residue + k * 512 ≡ count * 512 → Put k first bytes d d' → WhyFailed k first count bytes d d'
        → Standing t from index (suc p) (world from (attached x (bulk_at t.data_in t.data_out (Each false true) (status (failed_status tag residue) false)) e) d')
    passing : (x : Transfer) (e : Expectation) (d' : Disk) → first + count ≤ d.size → Put count first bytes d d'
        → Standing t from index 0 (world from (expecting e (with_status x t (passed_status tag))) d')
    failing : (k residue : ℕ) (x : Transfer) (e : Expectation) (d' : Disk) → residue + k * 512 ≡ count * 512 → Put k first bytes d d' → WhyFailed k first count bytes d d'
        → Standing t from index 0 (world from (expecting e (with_status x t (failed_status tag residue))) d')

  -- what the data come to: all sectors are put, or so many of the first, and a status waits; or they are given up
  pub data Sent (from : ℕ) : Result DataOver Fault × Toggles → World → Type 0 where
    put : (n : ℕ) (t : Toggles) (x : Transfer) (e : Expectation) (d' : Disk) → from ≤ n → first + count ≤ d.size → Put count first bytes d d'
        → Sent from (Ok (data_over tag (length bytes) true), t) (world n (expecting e (with_status x t (passed_status tag))) d')
    not_put : (n : ℕ) (t : Toggles) (x : Transfer) (e : Expectation) (d' : Disk) (k residue : ℕ) (whole : Bool) → from ≤ n → residue + k * 512 ≡ count * 512 → Put k first bytes d d' → WhyFailed k first count bytes d d'
        → Sent from (Ok (data_over tag (length bytes) whole), t) (world n (expecting e (with_status x t (failed_status tag residue))) d')
    given_up : (n : ℕ) (s : State) (fault : Fault) (t : Toggles) (d' : Disk) (k : ℕ) → k ≤ count → Put k first bytes d d' → Attached s → from + 3 ≤ n
        → Sent from (Err fault, t) (world n s d')

  sent_later : (from later : ℕ) (r : Result DataOver Fault × Toggles) (w : World) → from ≤ later → Sent later r w → Sent from r w
  sent_later from later r w h (put n t x e d' l fits p) = put n t x e d' (omega arith) fits p
  sent_later from later r w h (not_put n t x e d' k residue whole l sum p why) = not_put n t x e d' k residue whole (omega arith) sum p why
  sent_later from later r w h (given_up n s fault t d' k l p a m) = given_up n s fault t d' k l p a (omega arith)

  abbrev Later : (p index : ℕ) → Toggles → Type 0
  Later p index t = (from : ℕ) (w : World) → Standing t from index p w → (r : Result DataOver Fault × Toggles) (w' : World) → Runs (delivers_data p index tag bytes t) w r w' → Sent from r w'

  -- a leading run of the sectors is on a disk
  abbrev Leading : Disk → Type 0
  Leading d' = (k : ℕ) × (k ≤ count) × Put k first bytes d d'

  -- a packet that is taken: whether it was or not, a leading run of the sectors is put, and after it the ends stand so
  record Step (t : Toggles) (p index : ℕ) (s : State) (d' : Disk) : Type 0 where
    packet_taken : Taking (token Out 1 2) t.data_out (packet_in index bytes)
    not_yet : (from : ℕ) (e : Expectation) → Between packet_taken from (world from (expecting e s) d')
    attached_before : Attached packet_taken.untaken
    attached_begun : Attached packet_taken.begun
    attached_after : Attached packet_taken.taken
    put_before : Leading packet_taken.disk
    put_after : (v : ℕ → List ℕ → Verdict) → Leading (written_on packet_taken.written v packet_taken.disk)
    stands : (from : ℕ) (e : Expectation) (v : ℕ → List ℕ → Verdict) → Standing (toggle_turned DataOut t) from (index + 1) p (world from (expecting e packet_taken.taken) (written_on packet_taken.written v packet_taken.disk))

  -- the write is given up between two tries of a packet
  leaves : (t : Toggles) (p index : ℕ) (o : State) (d' : Disk) (s : Step t p index o d') (from n : ℕ) (fault : Fault) (w : World) → from + 3 ≤ n → Between s.packet_taken n w → Sent from (Err fault, t) w
  leaves t p index o d' s from n fault w l (before e) = given_up n _ fault t _ s.put_before.0 s.put_before.1 s.put_before.2 (still_attached e _ s.attached_before) l
  leaves t p index o d' s from n fault w l (begun_only e) = given_up n _ fault t _ s.put_before.0 s.put_before.1 s.put_before.2 (still_attached e _ s.attached_begun) l
  leaves t p index o d' s from n fault w l (after e v) = given_up n _ fault t _ (s.put_after v).0 (s.put_after v).1 (s.put_after v).2 (still_attached e _ s.attached_after) l

  steps : (t : Toggles) (p index : ℕ) (o : State) (d' : Disk) (s : Step t p index o d') (from : ℕ) → Later p (index + 1) (toggle_turned DataOut t) → (ending : Ending (Unit {0})) (u : World) → Delivered s.packet_taken 3 from ending u
      → (r : Result DataOver Fault × Toggles) (w' : World) → Runs (data_delivered index tag (length bytes) t (delivers_data p (index + 1) tag bytes (toggle_turned DataOut t)) ending) u r w' → Sent from r w'
  steps t p index o d' s from later ending u (taken_once n e v l) r w' run = sent_later from n r w' l (later n _ (s.stands n e v) r w' run)
  steps t p index o d' s from later ending u (undelivered n cause w b l) r w' run = rw (← run.0, ← run.1) (leaves t p index o d' s from n _ w l b)

-- a reader that receives: so many sectors are put, and so many packets of the next one have come
module _ (tag first count : ℕ) (bytes : List ℕ) (d : Disk) (size : length bytes ≡ count * 512) (fits : first + count ≤ d.size)
    (t : Toggles) (index k j : ℕ) (x : Transfer) (d' : Disk) (place : index ≡ k * 8 + j) (holds : Put k first bytes d d') where
  abbrev come : List ℕ
  come = take (j * 64) (drop (k * 512) bytes)

  abbrev now : ℕ → State
  now p = attached x (bulk_at t.data_in t.data_out (Each false false) (data_out tag (suc p * 64) (suc p * 64) (first + k) come)) Nothing

  -- the packet is taken to this phase, with this sector written
  step_to : (p : ℕ) (h : Halts) (next : Phase) (written : Written)
      → take_data (record { data_in = t.data_in; data_out = turned t.data_out }) (Each false false) d' tag (suc p * 64) (suc p * 64) (first + k) come (packet_in index bytes) ≡ (bulk_at t.data_in (turned t.data_out) h next, written)
      → k ≤ count → ((v : ℕ → List ℕ → Verdict) → Leading tag first count bytes d (written_on written v d'))
      → ((from : ℕ) (e : Expectation) (v : ℕ → List ℕ → Verdict) → Standing tag first count bytes d (toggle_turned DataOut t) from (index + 1) p (world from (attached x (bulk_at t.data_in (turned t.data_out) h next) e) (written_on written v d')))
      → Step tag first count bytes d t p index (now p) d'
  step_to p h next written takes-so l leads stands-so = record {
    packet_taken = taking t.data_out (packet_in index bytes) d' x t.data_in tag (suc p * 64) (suc p * 64) (first + k) come h next written takes-so;
    not_yet = λ _ e. before e;
    attached_before = at_address_1 _ _ _;
    attached_begun = at_address_1 _ _ _;
    attached_after = at_address_1 _ _ _;
    put_before = (k, l, holds);
    put_after = leads;
    stands = stands-so;
  }

  -- the sector goes on
  within_a_sector : (p : ℕ) → j < 7 → index + suc p ≡ count * 8 → Step tag first count bytes d t p index (now p) d'
  within_a_sector zero h sum = let z : ⊥ = omega arith in absurd z
  within_a_sector (suc p) h sum =
      let part : length (take (suc j * 64) (drop (k * 512) bytes)) ≡ suc j * 64 = length-take-le _ _ (simp length-drop (omega arith)) in
      step_to (suc p) (Each false false) (data_out tag (suc p * 64) (suc p * 64) (first + k) (take (suc j * 64) (drop (k * 512) bytes))) None
      (sector_goes_on _ _ d' tag (first + k) (suc p) come (packet_in index bytes) _ (packet_length bytes index (omega arith)) (packet_goes_on bytes index (omega arith) k j place) (λ e. omega arith))
      (omega arith) (λ _. (k, omega arith, holds))
      (λ from e v. receiving k (suc j) x e d' (omega arith) (omega arith) (omega arith) fits holds)

  module _ (p : ℕ) (sum : index + suc p ≡ count * 8) (last : j ≡ 7) where
    -- the sector is whole
    joined : come ++ packet_in index bytes ≡ sector_in k bytes
    joined = let all : suc j * 64 ≡ 512 = omega arith in packet_goes_on bytes index (omega arith) k j place ∙ rw all

    whole_with : (v : Verdict) → d'.verdict (first + k) (sector_in k bytes) ≡ v
        → take_data (record { data_in = t.data_in; data_out = turned t.data_out }) (Each false false) d' tag (suc p * 64) (suc p * 64) (first + k) come (packet_in index bytes)
        ≡ sector_answered (record { data_in = t.data_in; data_out = turned t.data_out }) (Each false false) tag (p * 64) (p * 64) (first + k) (sector_in k bytes) (Ok v)
    whole_with v says =
        sector_is_whole _ (Each false false) d' tag (first + k) p come (packet_in index bytes) (sector_in k bytes) (packet_length bytes index (omega arith)) joined
        (length-take-le _ _ (simp length-drop (omega arith))) (let same : d'.size ≡ d.size = holds.size in omega arith) v says

  abbrev this_sector : Written
  this_sector = Some (first + k, sector_in k bytes)

  -- a sector that is taken is put, and the next one is awaited, or the write has passed
  sector_taken : (p : ℕ) → index + suc p ≡ count * 8 → j ≡ 7 → d'.verdict (first + k) (sector_in k bytes) ≡ Taken → Step tag first count bytes d t p index (now p) d'
  sector_taken zero sum last says =
      let all : suc k ≡ count = omega arith in
      step_to zero (Each false false) (status (passed_status tag) false) this_sector (whole_with 0 sum last Taken says)
      (omega arith) (λ v. (suc k, omega arith, put_next k first bytes d d' v holds))
      (λ from e v. passing x e _ fits (subst (λ n. Put n first bytes d (written_on this_sector v d')) all (put_next k first bytes d d' v holds)))
  sector_taken (suc p) sum last says =
      let more : eqb (suc p * 64) 0 ≡ false = ne_eqb _ _ (λ e. omega arith) in
      let next : first + k + 1 ≡ first + suc k = omega arith in
      step_to (suc p) (Each false false) (data_out tag (suc p * 64) (suc p * 64) (first + suc k) (take (0 * 64) (drop (suc k * 512) bytes))) this_sector (whole_with (suc p) sum last Taken says ∙ rw (more, next))
      (omega arith) (λ v. (suc k, omega arith, put_next k first bytes d d' v holds))
      (λ from e v. receiving (suc k) 0 x e _ (omega arith) (omega arith) (omega arith) fits (put_next k first bytes d d' v holds))

  -- one that is not taken stays due, and the write has failed; the endpoint halts if packets are left
  sector_not_taken : (p : ℕ) → index + suc p ≡ count * 8 → j ≡ 7 → (v : Verdict) → d'.verdict (first + k) (sector_in k bytes) ≡ v → (v ≡ Taken → ⊥)
      → ((t' : Toggles) (h : Halts) (due left sector : ℕ) (whole : List ℕ) → sector_answered t' h tag due left sector whole (Ok v) ≡ (record { toggles = t'; halts = if_due due DataOut h; phase = status (failed_status tag (due + 512)) false }, None))
      → Step tag first count bytes d t p index (now p) d'
  sector_not_taken zero sum last v says other answers =
      step_to zero (Each false false) (status (failed_status tag 512) false) None (whole_with zero sum last v says ∙ answers _ (Each false false) 0 0 (first + k) (sector_in k bytes))
      (omega arith) (λ _. (k, omega arith, holds))
      (λ from e _. failing k 512 x e d' (omega arith) holds (not_taken (omega arith) fits (λ same. other (sym says ∙ same))))
  sector_not_taken (suc p) sum last v says other answers =
      let more : ltb 0 (suc p * 64) ≡ true = lt-ltb _ _ (omega arith) in
      step_to (suc p) (Each false true) (status (failed_status tag (suc p * 64 + 512)) false) None (whole_with (suc p) sum last v says ∙ answers _ (Each false false) (suc p * 64) (suc p * 64) (first + k) (sector_in k bytes) ∙ rw more)
      (omega arith) (λ _. (k, omega arith, holds))
      (λ from e _. refusing k (suc p * 64 + 512) x e d' (omega arith) holds (not_taken (omega arith) fits (λ same. other (sym says ∙ same))))

  at_the_end_of_a_sector : (p : ℕ) → index + suc p ≡ count * 8 → j ≡ 7 → (v : Verdict) → d'.verdict (first + k) (sector_in k bytes) ≡ v → Step tag first count bytes d t p index (now p) d'
  at_the_end_of_a_sector p sum last Taken says = sector_taken p sum last says
  at_the_end_of_a_sector p sum last Locked says = sector_not_taken p sum last Locked says (λ e. let z : ◌≡◌ {A = ℕ} 0 1 = cc in omega arith) (λ _ _ _ _ _ _. refl)
  at_the_end_of_a_sector p sum last Full says = sector_not_taken p sum last Full says (λ e. let z : ◌≡◌ {A = ℕ} 0 1 = cc in omega arith) (λ _ _ _ _ _ _. refl)

  receives_a_packet : (p : ℕ) → j < 8 → index + suc p ≡ count * 8 → Step tag first count bytes d t p index (now p) d'
  receives_a_packet p h sum =
      elim (cases_lt j 7) [ inl within ↦ within_a_sector p within sum | inr beyond ↦ at_the_end_of_a_sector p sum (omega arith) _ refl ]

-- the write has failed with packets left: the next one meets STALL, and the halt is cleared
module _ (tag first count : ℕ) (bytes : List ℕ) (d : Disk) (t : Toggles) (k residue : ℕ) (d' : Disk) (sum : residue + k * 512 ≡ count * 512) (holds : Put k first bytes d d') (why : WhyFailed k first count bytes d d') where
  abbrev halted : Bulk
  halted = bulk_at t.data_in t.data_out (Each false true) (status (failed_status tag residue) false)

  abbrev unhalted : Bulk
  unhalted = bulk_at t.data_in Data0 (Each false false) (status (failed_status tag residue) false)

  abbrev stalling : (index : ℕ) → Transfer → Stalling (token Out 1 2) t.data_out (packet_in index bytes)
  stalling index x = record { disk = d'; halted = attached x halted Nothing; due = BulkData; token_heard = λ _. refl; refuses = cond-true _ _ _ (same_as_itself t.data_out) }

  is_cleared : (from : ℕ) (q : Transferred) (u : World) → Changed halted unhalted d' from q u → Sent tag first count bytes d from (data_stopped tag (length bytes) (cleared DataOut t q)) u
  is_cleared from q u (changed n x e l) = not_put n (toggle_freshened DataOut t) x e d' k residue false l sum holds why
  is_cleared from q u (unchanged n x e b fault _ l) = given_up n _ _ t d' k (omega arith) holds (at_address_1 x b e) l

  clears_the_halt : (from : ℕ) (x : Transfer) (e : Expectation) (r : Result DataOver Fault × Toggles) (w' : World)
      → Runs (bind (clears DataOut t) (λ q. done (data_stopped tag (length bytes) q))) (world from (attached x halted e) d') r w' → Sent tag first count bytes d from r w'
  clears_the_halt from x e r w' run =
      let h = halfway (clears DataOut t) (λ q. done (data_stopped tag (length bytes) q)) (world from (attached x halted e) d') r w' run in
      let g = halfway (transfers 1 (clear_setup DataOut)) (λ q. done (cleared DataOut t q)) (world from (attached x halted e) d') h.result h.between h.first in
      stays (Sent tag first count bytes d from) _ _ r w' h.second
      (stays (λ q u. Sent tag first count bytes d from (data_stopped tag (length bytes) q) u) _ _ _ _ g.second
      (is_cleared from _ _ (a_control_transfer_is_done_or_paid_for (clear_setup DataOut) halted unhalted (clearing_outward _ _ _ _ _) d' from x e g.result g.between g.first)))

  refuses_a_packet : (p index from : ℕ) (x : Transfer) (ending : Ending (Unit {0})) (u : World) → Refused (stalling index x) 3 from ending u
      → (r : Result DataOver Fault × Toggles) (w' : World) → Runs (data_delivered index tag (length bytes) t (delivers_data p (index + 1) tag bytes (toggle_turned DataOut t)) ending) u r w' → Sent tag first count bytes d from r w'
  refuses_a_packet p index from x ending u (met_stall n e l) r w' run = sent_later tag first count bytes d from n r w' l (clears_the_halt n x e r w' run)
  refuses_a_packet p index from x ending u (unrefused n cause e l) r w' run = rw (← run.0, ← run.1) (given_up n _ _ t d' k (omega arith) holds (at_address_1 x halted e) l)

module _ (tag first count : ℕ) (bytes : List ℕ) (d : Disk) (size : length bytes ≡ count * 512) where
  sends_a_packet : (p index : ℕ) (t : Toggles) (from : ℕ) (w : World) → Standing tag first count bytes d t from index (suc p) w → Later tag first count bytes d p (index + 1) (toggle_turned DataOut t)
      → (r : Result DataOver Fault × Toggles) (w' : World) → Runs (delivers_data (suc p) index tag bytes t) w r w' → Sent tag first count bytes d from r w'
  sends_a_packet p index t from w (receiving k j x e d' h place sum fits holds) later r w' run =
      let s = receives_a_packet tag first count bytes d size fits t index k j x d' place holds p h sum in
      let g = halfway (delivers 3 (token Out 1 2) (data_packet t.data_out (packet_in index bytes)) NoAnswer) (data_delivered index tag (length bytes) t (delivers_data p (index + 1) tag bytes (toggle_turned DataOut t))) w r w' run in
      steps tag first count bytes d t p index _ d' s from later g.result g.between (failed_deliveries_are_paid_for Out 1 2 t.data_out (packet_in index bytes) s.packet_taken 3 NoAnswer from w (s.not_yet from e) g.result g.between g.first) r w' g.second
  sends_a_packet p index t from w (refusing k residue x e d' sum holds why) later r w' run =
      let g = halfway (delivers 3 (token Out 1 2) (data_packet t.data_out (packet_in index bytes)) NoAnswer) (data_delivered index tag (length bytes) t (delivers_data p (index + 1) tag bytes (toggle_turned DataOut t))) w r w' run in
      refuses_a_packet tag first count bytes d t k residue d' sum holds why p index from x g.result g.between
      (a_halted_endpoint_refuses_data Out 1 2 t.data_out (packet_in index bytes) (stalling tag first count bytes d t k residue d' sum holds why index x) 3 NoAnswer from e g.result g.between g.first) r w' g.second

  sends_none : (index : ℕ) (t : Toggles) (from : ℕ) (w : World) → Standing tag first count bytes d t from index 0 w → Sent tag first count bytes d from (Ok (data_over tag (length bytes) true), t) w
  sends_none index t from w (passing x e d' fits holds) = put from t x e d' (omega arith) fits holds
  sends_none index t from w (failing k residue x e d' sum holds why) = not_put from t x e d' k residue true (omega arith) sum holds why

  pub data_are_sent_or_paid_for : (p index : ℕ) (t : Toggles) → Later tag first count bytes d p index t
  data_are_sent_or_paid_for zero index t from w s r w' run = stays (Sent tag first count bytes d from) _ _ r w' run (sends_none index t from w s)
  data_are_sent_or_paid_for (suc p) index t from w s r w' run = sends_a_packet p index t from w s (data_are_sent_or_paid_for p (index + 1) (toggle_turned DataOut t)) r w' run
